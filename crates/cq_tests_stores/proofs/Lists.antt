-- A list of nodes that is looked through node by node.
use Rattle.std.proofs.Common.{◌≡◌, ℕ, ◌+◌, ◌<◌, Bool, false, ◌||◌, eqb, nat_eq, List, [], ◌∷◌, ◌++◌, length, get_or, take, refl, sym, ap, ◌∙◌, subst, add-one, arith}
use Rattle.std.specs.List.{IsDistinct, list_any}
use Rattle.std.specs.Set.{is_member}
use Rattle.std.proofs.Math.Seq.{take-suc}
use Rattle.std.proofs.lemmas.List.{map-append}
use Rattle.std.proofs.lemmas.Cmp.{nat_eq_equiv}
use Rattle.std.proofs.lemmas.Map.Keys.{IsDistinct-from_apart, IsDistinct-push}
use Rattle.cq_match.specs.Matched.{numbers}

abbrev Nodes : Type 0
Nodes = List (ℕ × ℕ × Bool)

-- some node has the number
abbrev pub is_listed : ℕ → Nodes → Bool
is_listed n nodes = list_any (λ (x : ℕ × ℕ × Bool). eqb n x.0) nodes

pub listed-member : (nodes : Nodes) (n : ℕ) → is_member nat_eq (numbers nodes) n ≡ is_listed n nodes
listed-member [] n = refl
listed-member (x ∷ nodes) n = ap (λ b. eqb n x.0 || b) (listed-member nodes n)

-- one node more, whose number is new
pub distinct-more : (nodes : Nodes) (i : ℕ) (d : ℕ × ℕ × Bool) → i < length nodes → IsDistinct nat_eq (numbers (take i nodes)) → is_listed (get_or nodes i d).0 (take i nodes) ≡ false
    → IsDistinct nat_eq (numbers (take (i + 1) nodes))
distinct-more nodes i d low distinct away =
    let node = get_or nodes i d in
    let longer : take (i + 1) nodes ≡ take i nodes ++ node ∷ [] = ap (λ k. take k nodes) (add-one i) ∙ take-suc nodes i d low in
    let is : numbers (take (i + 1) nodes) ≡ numbers (take i nodes) ++ node.0 ∷ [] =
    ap numbers longer ∙ map-append (λ (x : ℕ × ℕ × Bool). x.0) (take i nodes) (node ∷ []) in
    subst (IsDistinct nat_eq) (sym is) (IsDistinct-push nat_eq_equiv (numbers (take i nodes)) node.0 distinct (listed-member (take i nodes) node.0 ∙ away))

pub none-distinct : IsDistinct nat_eq []
none-distinct = IsDistinct-from_apart nat_eq [] (λ i j d before inside. absurd (omega arith))
