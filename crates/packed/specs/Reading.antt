-- What the reader answers.
use Rattle.std.specs.Prelude.{ℕ, cond, List, length, Ok, Err, Result, ◌==◌, nat_le, nat_lt}
use Rattle.packed.specs.declared.field.Field.{Field}
use Rattle.packed.specs.declared.node.RawNode.{RawNode}
use Rattle.packed.specs.declared.refusal.Reason.{Reason}
use Rattle.packed.specs.declared.refusal.Reason.TheVariants.{CutField, WrongTag, BadHeader, Full}
use Rattle.packed.specs.declared.refusal.Refusal.{Refusal}
use Rattle.packed.specs.Fields.{Told, node, scope, switch, name, other, told, told_node, field_at, next_at}

abbrev pub refused : {A : Type 0} → Reason → ℕ → Result A Refusal
refused why p = Err (record { reason = why; place = p })

abbrev pub and_then : {A B E : Type 0} → Result A E → (A → Result B E) → Result B E
and_then (Ok a) f = f a
and_then (Err e) f = Err e

-- an answer with the field by its values
abbrev pub said : Result (Field × ℕ) Refusal → Result (Told × ℕ) Refusal
said (Ok a) = Ok (told a.0, a.1)
said (Err e) = Err e

-- a file of more than 65,535 bytes is refused first, then a field that does not end within the file
abbrev pub read_at : List ℕ → ℕ → Result (Told × ℕ) Refusal
read_at file p =
    cond (nat_lt 65535 (length file)) (refused Full 65535)
    (cond (nat_le (next_at file p) (length file)) (Ok (field_at file p, next_at file p)) (refused CutField p))

-- an answer with the node by its values
abbrev pub said_node : Result (RawNode × ℕ) Refusal → Result (Told × ℕ) Refusal
said_node (Ok a) = Ok (told_node a.0, a.1)
said_node (Err e) = Err e

-- a field that is no node is refused at its own place
abbrev pub node_only : ℕ → Told → ℕ → Result (Told × ℕ) Refusal
node_only p (node kind detail count reference text) next = Ok (node kind detail count reference text, next)
node_only p (scope s) next = refused WrongTag p
node_only p (switch s) next = refused WrongTag p
node_only p (name text) next = refused WrongTag p
node_only p (other tag payload) next = refused (cond (tag == 1) BadHeader WrongTag) p

abbrev pub node_at : List ℕ → ℕ → Result (Told × ℕ) Refusal
node_at file p = and_then (read_at file p) (λ a. node_only p a.0 a.1)
