-- Live edges lead to postconditions of their waiters.
use Rattle.std.proofs.Common.{◌≡◌, ℕ, ◌<◌, true, [], List, length, get_or, sym, subst}
use Rattle.std.specs.List.{All}
use Rattle.cq_match.specs.declared.graph.Place.{Place}
use Rattle.cq_match.specs.declared.graph.Out.{Out}
use Rattle.cq_match.specs.Steps.Kept.{place_at, is_live, OutsFit}

-- a live edge leads to a postcondition of its waiter
pub edge-fits : (places : List Place) (leaving : List (List Out)) (node i : ℕ) (outs : List Out) (d : Out) → OutsFit places leaving → outs ≡ get_or leaving node [] → i < length outs → is_live places (get_or outs i d) ≡ true
    → (get_or outs i d).post < (place_at places (get_or outs i d).waiter).posts
edge-fits places leaving node i outs d fit same low live =
    subst (All (λ (out : Out). is_live places out ≡ true → out.post < (place_at places out.waiter).posts)) (sym same) (fit node) i d low live
