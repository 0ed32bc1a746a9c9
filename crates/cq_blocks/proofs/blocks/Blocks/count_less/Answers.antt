use Rattle.std.proofs.Common.{◌≡◌, ◌≤◌, suc, true, false, nat_eq, List, [], ◌∷◌, length, refl, sym, subst, arith}
use Rattle.std.specs.Prelude.{Vec}
use Rattle.std.proofs.lemmas.Bool.Decides.{Decides-eqb}
use Rattle.std.specs.List.Sorted.{IsPartitionedBy, IsPartitionPoint}
use Rattle.std.specs.Ordering.{is_lt}
use Rattle.cq_blocks.specs.Blocks.{elements, flat, lists_of}
use Rattle.cq_blocks.proofs.Ends.{before-none}
use Rattle.cq_blocks.proofs.Flat.{flat-bound}
use Rattle.cq_blocks.proofs.blocks.Blocks.count_less.Goals as goal

no-elements : {X Z : Type 0} (vs : List (Vec X Z)) → true ≡ nat_eq (length vs) 0 → length (elements (lists_of vs)) ≡ 0
no-elements [] e = refl
no-elements (v ∷ vs) e = absurd (let none : suc (length vs) ≡ 0 = (Decides-eqb (suc (length vs)) 0).0 (sym e) in omega (arith, none))

pub returns-then-is_empty-clause-partitioned : goal.returns-then-is_empty-clause-partitioned
returns-then-is_empty-clause-partitioned g c ord computes =
    let none : length (elements c.args.self.now) ≡ 0 = subst (λ l. length (elements l) ≡ 0) c.blocks-blocks.ensures.blocks (no-elements c.blocks-blocks.result.now c.if-is_empty.ensures) in (
      computes,
      (λ parted. ((λ k d least less. absurd (omega (arith, less))), (λ k d least less. absurd (omega (arith, less, none))))),
    )

pub returns-clause-bound : goal.returns-clause-bound
returns-clause-bound g c =
    let place = c.point_from-place.result in
    let bs = lists_of c.blocks-blocks.result.now in
    let bound : flat c.args.self.now c.point_from-place.result ≤ length (elements c.args.self.now) =
    subst (λ l. flat l place ≤ length (elements l)) c.blocks-blocks.ensures.blocks (flat-bound bs place.block place.index (omega (arith, c.point_from-place.ensures.block)) c.point_from-place.ensures.index) in
    omega (arith, c.index_of.ensures, bound)

pub returns-clause-partitioned : goal.returns-clause-partitioned
returns-clause-partitioned g c ord computes =
    let bs = lists_of c.blocks-blocks.result.now in
    let shown : lists_of c.blocks-blocks.result.now ≡ c.args.self.now = c.blocks-blocks.ensures.blocks in (
      c.point_from-place.ensures.computes ord computes,
      (λ parted. subst (λ n. IsPartitionPoint (λ x. is_lt (ord x) ≡ true) (λ x. is_lt (ord x) ≡ false) (elements c.args.self.now) n) (sym c.index_of.ensures)
          (subst (λ l. IsPartitionPoint (λ x. is_lt (ord x) ≡ true) (λ x. is_lt (ord x) ≡ false) (elements l) (flat l c.point_from-place.result)) shown
          (c.point_from-place.ensures.between ord computes (subst (λ l. IsPartitionedBy (λ x. is_lt (ord x)) (elements l)) (sym shown) parted) (before-none (λ x. is_lt (ord x)) bs)))),
    )
