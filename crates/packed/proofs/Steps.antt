-- What an answer that is no refusal rests on.
use Rattle.std.proofs.Common.{◌≡◌, ℕ, Bool, true, false, cond, Ok, Err, Result, refl, arith}

pub no_err : {A E : Type 0} (e : E) (a : A) → ◌≡◌ {A = Result A E} (Err e) (Ok a) → ⊥
no_err e a h = let z : ◌≡◌ {A = ℕ} 0 1 = cc in omega arith

pub ok_same : {A E : Type 0} (x y : A) → ◌≡◌ {A = Result A E} (Ok x) (Ok y) → x ≡ y
ok_same x y h = cc

-- a test that was passed
pub pass : {A E : Type 0} (b : Bool) (x : Result A E) (e : E) (a : A) → cond b x (Err e) ≡ Ok a → (b ≡ true) × (x ≡ Ok a)
pass true x e a h = (refl, h)
pass false x e a h = absurd (no_err e a h)

-- a test that refuses where it holds
pub pass_by : {A E : Type 0} (b : Bool) (x : Result A E) (e : E) (a : A) → cond b (Err e) x ≡ Ok a → (b ≡ false) × (x ≡ Ok a)
pass_by true x e a h = absurd (no_err e a h)
pass_by false x e a h = (refl, h)
