-- What the bytes of a field mean.
use Rattle.std.specs.Prelude.{ℕ, ◌+◌, ◌*◌, Bool, true, false, cond, ◌&&◌, List, length, take, drop, Some, None, Option, ◌==◌, nat_le, slice_index}
use Rattle.packed.specs.declared.node.RawNode.{RawNode}
use Rattle.packed.specs.declared.switch.Switch as switches
use Rattle.packed.specs.declared.tag.Tag as tags
use Rattle.packed.specs.declared.field.Scope as scopes
use Rattle.packed.specs.declared.field.Field.{Field}
use Rattle.packed.specs.declared.field.Field.TheVariants.{Node, Scope, Switch, Name, Other}
use Rattle.packed.specs.ValueTypes.{type_of}
use Rattle.packed.specs.Switches.{switch_of}
use Rattle.packed.specs.Tags.{tag_of}

-- a field by its values, with the bytes of each text in the place of a reference
pub data Told : Type 0 where
  node : ℕ → ℕ → ℕ → ℕ → List ℕ → Told  -- kind, detail, count, reference, text
  scope : scopes.Scope → Told
  switch : switches.Switch → Told
  name : List ℕ → Told
  other : ℕ → List ℕ → Told  -- tag, payload

abbrev pub told_node : RawNode → Told
told_node n = node n.kind n.detail n.count n.reference n.text.now

abbrev pub told : Field → Told
told (Node n) = told_node n
told (Scope s) = scope s
told (Switch s) = switch s
told (Name text) = name text.now
told (Other tag payload) = other tag payload.now

-- the tag is that of a node, whatever the payload
abbrev pub has_node_tag : Told → Bool
has_node_tag (node kind detail count reference text) = true
has_node_tag (scope s) = false
has_node_tag (switch s) = false
has_node_tag (name text) = false
has_node_tag (other tag payload) = tag == 1

-- the tag, if it is a known one, whatever the payload
abbrev pub tag_named : Told → Option tags.Tag
tag_named (node kind detail count reference text) = Some tags.TheVariants.Node
tag_named (scope s) = Some tags.TheVariants.Scope
tag_named (switch s) = Some tags.TheVariants.Switch
tag_named (name text) = Some tags.TheVariants.Name
tag_named (other tag payload) = tag_of tag

-- two bytes, the high one first
abbrev pub word_at : List ℕ → ℕ → ℕ
word_at bytes i = slice_index bytes i * 256 + slice_index bytes (i + 1)

-- six bytes and any text
abbrev pub node_shaped : List ℕ → Bool
node_shaped p = nat_le 6 (length p)

-- a reference, outer (1) or not (0), and the number of a type or 0
abbrev pub scope_shaped : List ℕ → Bool
scope_shaped p = length p == 4 && (nat_le (slice_index p 2) 1 && nat_le (slice_index p 3) 8)

-- the field of a byte that is the number of a switch, or of another
abbrev pub switch_field : List ℕ → Option switches.Switch → Told
switch_field p (Some s) = switch s
switch_field p None = other 3 p

-- the node that a payload tells
abbrev pub node_of : List ℕ → Told
node_of p = node (slice_index p 0) (slice_index p 1) (word_at p 2) (word_at p 4) (drop 6 p)

abbrev pub scope_record : List ℕ → scopes.Scope
scope_record p = record { reference = word_at p 0; outer = (slice_index p 2 == 1); value_type = type_of (slice_index p 3) }

-- the field that a tag and a payload make; any that has not its tag's shape is `other`
abbrev pub host_field_of : ℕ → List ℕ → Told
host_field_of tag p =
    cond (tag == 2 && scope_shaped p) (scope (scope_record p))
    (cond (tag == 3 && length p == 1) (switch_field p (switch_of (slice_index p 0)))
    (cond (tag == 4) (name p) (other tag p)))

abbrev pub field_of : ℕ → List ℕ → Told
field_of tag p = cond (tag == 1 && node_shaped p) (node_of p) (host_field_of tag p)

-- the place after the field at p: a tag, a length of two bytes and the payload
abbrev pub next_at : List ℕ → ℕ → ℕ
next_at file p = p + 3 + word_at file (p + 1)

abbrev pub payload_at : List ℕ → ℕ → List ℕ
payload_at file p = take (word_at file (p + 1)) (drop (p + 3) file)

abbrev pub field_at : List ℕ → ℕ → Told
field_at file p = field_of (slice_index file p) (payload_at file p)
