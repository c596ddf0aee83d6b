-- What `add` answers and leaves.
use Rattle.std.specs.Prelude.{◌≡◌, ℕ, zero, suc, ◌+◌, Bool, true, false, cond, not, ◌&&◌, ◌||◌, List, length, Ok, Err, Result, ◌==◌, nat_le, nat_lt, slice_set}
use Rattle.packed.specs.declared.refusal.Refusal.{Refusal}
use Rattle.packed.specs.declared.refusal.Reason.TheVariants.{WrongTag, BadHeader, TypeScriptOnly, BadText, BadChildren, Full, ForeignTable}
use Rattle.packed.specs.Fields.{Told, node, scope, switch, name, other}
use Rattle.packed.specs.Reading.{refused, and_then, node_at}
use Rattle.drafts.specs.declared.record.Record.{Record}
use Rattle.drafts.specs.Tree.{Nodes, many, sizes, last_of, waiting, at}
use Rattle.drafts.specs.Grammar.{fits}
use Rattle.drafts.specs.Table.{row_of, details_of, text_of, items_of, fewest_of}
use Rattle.drafts.specs.TextRules.{text_fits}

-- a known kind and detail; a reference is for an identifier alone
abbrev pub known : ℕ → ℕ → ℕ → Bool
known kind detail reference = nat_lt detail (details_of (row_of kind)) && (reference == 0 || kind == 1)

-- the children of a node of this kind and detail are what its row allows
unfoldable pub allowed : ℕ → ℕ → Nodes → Bool
allowed kind detail below =
    nat_le (fewest_of (row_of kind)) (many below) && fits (items_of (row_of kind)) detail below

-- so many nodes wait, and the last of them are allowed as children
abbrev pub children_fit : Nodes → ℕ → ℕ → ℕ → Bool
children_fit wait kind detail count = nat_le count (many wait) && allowed kind detail (last_of count wait)

-- the record of node n that a field makes where these nodes wait, and the place of the next field; or the first refusal
abbrev pub entered : Nodes → ℕ → ℕ → Told → ℕ → Result (Record × ℕ) Refusal
entered wait n p (node kind detail count reference text) next =
    cond (known kind detail reference)
    (cond (not (kind == 70))
    (cond (text_fits (text_of (row_of kind)) detail count text)
    (cond (children_fit wait kind detail count)
    (cond (nat_lt n 65535)
    (Ok (record { place = p; kind = kind; detail = detail; count = count; reference = reference; span = suc (sizes (last_of count wait)) }, next))
    (refused Full p)) (refused BadChildren p)) (refused BadText p)) (refused TypeScriptOnly p)) (refused BadHeader p)
entered wait n p (scope s) next = refused WrongTag p
entered wait n p (switch s) next = refused WrongTag p
entered wait n p (name text) next = refused WrongTag p
entered wait n p (other tag payload) next = refused WrongTag p

-- what the field at p makes after the first n records
abbrev pub accepted : List ℕ → List Record → ℕ → ℕ → Result (Record × ℕ) Refusal
accepted file rs n p = and_then (node_at file p) (λ a. entered (waiting file rs n) n p a.0 a.1)

abbrev pub same : Record → Record → Bool
same a b =
    (a.place == b.place) && (a.kind == b.kind && (a.detail == b.detail &&
    (a.count == b.count && (a.reference == b.reference && a.span == b.span))))

abbrev pub makes : Record → Result (Record × ℕ) Refusal → Bool
makes r (Ok a) = same a.0 r
makes r (Err e) = false

-- the record of node i is what its field makes after those before it
unfoldable pub stands : List ℕ → List Record → ℕ → Bool
stands file rs i = makes (at rs i) (accepted file rs i (at rs i).place)

-- each of the first n records is
abbrev pub sound : List ℕ → List Record → ℕ → Bool
sound file rs zero = true
sound file rs (suc i) = sound file rs i && stands file rs i

-- a file that is too long is refused first, then a table that is too short for n nodes or whose records do not stand
abbrev pub checked : List ℕ → ℕ → List Record → ℕ → Result (Unit {0}) Refusal
checked file n rs p =
    cond (nat_le (length file) 65535) (cond (nat_le n (length rs) && sound file rs n) (Ok tt) (refused ForeignTable p)) (refused Full 65535)

-- a full table is refused last
abbrev pub room : ℕ → List Record → ℕ → Record × ℕ → Result (Record × ℕ) Refusal
room n rs p a = cond (nat_lt n (length rs)) (Ok a) (refused Full p)

-- the field at p, added to n nodes: the record to store and the place of the next field, or the first refusal
abbrev pub adds : List ℕ → ℕ → List Record → ℕ → Result (Record × ℕ) Refusal
adds file n rs p = and_then (checked file n rs p) (λ _. and_then (accepted file rs n p) (room n rs p))

abbrev pub answer : Result (Record × ℕ) Refusal → Result ℕ Refusal
answer (Ok a) = Ok a.1
answer (Err e) = Err e

abbrev pub stored : ℕ → List Record → Result (Record × ℕ) Refusal → List Record
stored n rs (Ok a) = slice_set rs n a.0
stored n rs (Err e) = rs

abbrev pub counted : ℕ → Result (Record × ℕ) Refusal → ℕ
counted n (Ok a) = n + 1
counted n (Err e) = n

-- the call: on a draft of n nodes in the table rs it answers r, and leaves m nodes in the table new;
-- one record more, or all as it was
pub record Add (file : List ℕ) (p n : ℕ) (rs : List Record) (m : ℕ) (new : List Record) (r : Result ℕ Refusal) : Type 0 where
  pub answers : r ≡ answer (adds file n rs p)
  pub table : new ≡ stored n rs (adds file n rs p)
  pub draft : m ≡ counted n (adds file n rs p)
