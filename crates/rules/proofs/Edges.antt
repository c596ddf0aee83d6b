-- Pairs of expressions that differ little: the first of each is free, the second has effects.
use Rattle.std.proofs.Common.{ℕ, refl}
use Rattle.std.proofs.Math.Bool.{or-true}
use lib.Ieee.{of_bits, of_fields, odd, is_nan, whole, in_unsigned, to_unsigned}
use lib.Utf8.{encode}
use lib.Count.{count_trailing_zeros}
use Rattle.std.specs.Str.{chars}
use Rattle.text.specs.Utf8Test.{utf8}
use Rattle.drafts.specs.Table.{rows}
use Rattle.drafts.specs.Added.{allowed}
use Rattle.hosts.specs.Host.{Host}
use Rattle.known_globals.specs.Identifiers.{a_to_g, h_to_r, s_to_x, lowercase, known_names}
use Rattle.known_globals.specs.Constructors.{known_constructors}
use Rattle.rules.specs.Edges.{Answers, WritesAside, EdgePairs, WritePair}

-- the names that are not `abbrev`, so that the trees compute; a reference that may be any is left to `or-true`
pub edge_pairs : (h : Host) (r s t : ℕ) → Answers h r s t → EdgePairs h r s t
unfolding chars encode utf8 rows allowed a_to_g h_to_r s_to_x lowercase known_names known_constructors of_bits of_fields odd count_trailing_zeros is_nan whole in_unsigned to_unsigned
edge_pairs h r s t a =
    record {
      parentheses = record { first_obeys = refl; second_obeys = refl; free = refl; acts = refl };
      code_unit = record { first_obeys = refl; second_obeys = refl; free = simp a.switches; acts = simp a.switches };
      step = record { first_obeys = refl; second_obeys = refl; free = simp a.switches; acts = simp a.switches };
      copy = record { first_obeys = simp or-true; second_obeys = simp or-true; free = simp (a.switches, a.declared); acts = simp a.switches };
      guard = record { first_obeys = simp or-true; second_obeys = simp or-true; free = simp a.outer; acts = simp (a.switches, a.outer) };
      left_of_instanceof = record { first_obeys = simp or-true; second_obeys = simp or-true; free = simp a.global; acts = simp (a.global, a.declared, a.no_type) };
      field_value = record { first_obeys = simp or-true; second_obeys = simp or-true; free = refl; acts = refl };
    }

pub write_pair : (h : Host) (r : ℕ) → WritesAside h r → WritePair h r
unfolding chars encode utf8 rows allowed of_bits of_fields odd count_trailing_zeros is_nan
write_pair h r a = record { first_obeys = simp or-true; second_obeys = simp or-true; free = simp (a.switches, a.declared); acts = simp a.switches }
