-- UTF-8 as a test: the bytes are those of the scalar values that they decode to.
use Rattle.std.specs.Prelude.{ℕ, Bool, ◌&&◌, List}
use Rattle.std.proofs.Math.Utf8.{encodes, scalars}
use Rattle.std.specs.Str.{chars, bytes_eq}

unfoldable pub utf8 : List ℕ → Bool
utf8 bs = scalars (chars bs) && bytes_eq (encodes (chars bs)) bs
