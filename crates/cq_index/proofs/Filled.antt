-- A set of places that two places come into.
use Rattle.std.proofs.Common.{◌≡◌, Bool, true, false, cond, ◌||◌, refl, sym, ap, ◌∙◌}

cond-or : (b h : Bool) → cond b true h ≡ (b || h)
cond-or true h = refl
cond-or false h = refl

or-false : (b : Bool) → (b || false) ≡ b
or-false true = refl
or-false false = refl

one-in : (at has had was : Bool) → has ≡ cond at true had → had ≡ was → has ≡ (at || was)
one-in at has had was is before = is ∙ ap (cond at true) before ∙ cond-or at was

-- two come into none
pub two-in : (second first turned has had none : Bool) → has ≡ cond second true had → had ≡ cond first true none → none ≡ false → turned ≡ first → has ≡ (second || turned)
two-in second first turned has had none is before empty same = one-in second has had turned is (one-in first had none false before empty ∙ or-false first ∙ sym same)
