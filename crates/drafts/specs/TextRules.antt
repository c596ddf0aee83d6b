-- The rules of text.
use Rattle.std.specs.Prelude.{ℕ, Bool, cond, ◌&&◌, List, length, is_some, ◌==◌, nat_lt}
use Rattle.text.specs.Utf8Test.{utf8}
use Rattle.text.specs.Numbers.{literal_bytes}
use Rattle.text.specs.BigInts.{big_int}
use Rattle.drafts.specs.Flags.{set_in}
use Rattle.drafts.specs.declared.row.TextRule.{TextRule}
use Rattle.drafts.specs.declared.row.TextRule.TheVariants.{Empty, Name, Any, Number, BigInt, Childless, KeyByCount, KeyByFlag}

abbrev pub empty : List ℕ → Bool
empty bs = length bs == 0

-- whether a node of detail d and with c children may have the text
abbrev pub text_fits : TextRule → ℕ → ℕ → List ℕ → Bool
text_fits Empty d c bs = empty bs
text_fits Name d c bs = nat_lt 0 (length bs) && utf8 bs
text_fits Any d c bs = utf8 bs
text_fits Number d c bs = is_some (literal_bytes bs)
text_fits BigInt d c bs = big_int bs
text_fits Childless d c bs = cond (c == 0) (utf8 bs) (empty bs)
text_fits KeyByCount d c bs = cond (c == 2) (empty bs) (utf8 bs)
text_fits (KeyByFlag flag) d c bs = cond (set_in flag d) (empty bs) (utf8 bs)
