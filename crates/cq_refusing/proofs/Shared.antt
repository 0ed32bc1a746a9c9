-- What both walks say of a `&` to a `Refusing`, and `count_one` at a call. Assumes `Logic`.
--     args, self               the type arguments of a method's code, and its first parameter
--     inner_at, allocations_at     where the two fields lie
--     Count, at_count          the contract of `count_one`, and what a caller picks
--     Count-goes, Count-gives     what `count_one` is handed, a `&` to the allocations and a token of its lifetime, and what a caller has of it
use Rattle.cq_refusing.proofs.Steps.{◌≡◌, ℕ, ◌+◌, Bool, List, [], ◌∷◌, refl, ap, Bor, Al, α, Ura, Args, a_type, dnil, dcons, Val, vbool, vptr, SProp, ent, sep, ex, guard, id⊢, Lft, Share, ftrue, fsep, flft, Memory, size, align, up, Routine, Logic, sem, Fun, ‵, raw, ◌⊛◌, some, later, ◌$◌, ◌∵◌, !, qed, move, keep, split, join, pick, fjoin, feq_i, feq_l, check, show, await, updating, at_once, use1, done, RefOf, bool, hidden_shr, bounded, layout, param, RattleType, Slot, plain, nothing, only, Contract, triple_of}
use Rattle.cq_refusing.specs.contracts.Refusing as refusing
use Rattle.cq_refusing.specs.contracts.Allocations as allocations
use Rattle.cq_refusing.specs.contracts.Allocations.count_one as count_one

abbrev pub Grown : RattleType
Grown = allocations.the_row

module _ (Z : Al) where
  abbrev pub args : Args
  args = bounded (a_type ∷ []) (Z.row, tt) (dcons Z.d (dcons Z.drops dnil))

  abbrev pub self : Slot 2
  self = RefOf (0 ∷ []) tt (plain (λ _. refusing.the_row (param 0 Z.row))) (λ _. tt)

  module _ (r : Bor (refusing.the_row Z.row).Denot) where
    abbrev pub inner_at : ℕ × ℕ
    inner_at = (r.ref_ptr.0, r.ref_ptr.1 + up (align (α Z)) 0)

    abbrev pub allocations_at : ℕ × ℕ
    allocations_at = (r.ref_ptr.0, r.ref_ptr.1 + up (align (layout Grown)) (up (align (α Z)) 0 + size (α Z)))

module _ {M : Type 1} {𝓤 : Ura M} (𝓛 : Logic 𝓤) (at_mem : Memory → SProp 𝓤) (run : Routine → Fun 𝓤) where
  open 𝓛 use {H, A}

  abbrev pub Count : Contract 𝓤
  Count = triple_of 𝓛 count_one.signature (count_one.spec 𝓛 at_mem run)

  module _ (κ : Lft) (q : Share) (g : Grown.Denot) (c : ℕ × ℕ) where
    abbrev pub at_count : Count.Ghost
    at_count = (((κ, tt), (q, tt), tt, (record { ref_ptr = c; now = g }, tt), (vptr c.0 c.1 ∷ [], tt)), tt)

    pub Count-goes : ent 𝓤 (sep 𝓤 (sem 𝓛 (hidden_shr Grown κ g c.0 c.1)) (A.lft κ q)) (Count.pre at_count)
    Count-goes =
        qed 𝓛 (‵ (hidden_shr Grown κ g c.0 c.1) ∷ ‵ (flft κ q) ∷ []) ∵
        feq_i ! (List Val) (vptr c.0 c.1 ∷ []) _ refl $ fjoin ! $ nothing ! $ move ! (1 ∷ []) $ fjoin ! $
        nothing ! $ move ! (2 ∷ []) $ join ! $ join ! $ nothing ! $ move ! (1 ∷ []) $ done !

    pub Count-gives : (v : Val) → ent 𝓤 (Count.post at_count v) (H.⇛ (ex 𝓤 (λ (is_turn : Bool). guard 𝓤 (v ≡ vbool is_turn) (A.lft κ q))))
    Count-gives v =
        qed 𝓛 (raw (Count.post at_count v) ∷ []) ∵ updating ! $
        use1 𝓛 (later (some (λ (b : Bool). ((‵ (flft κ q) ⊛ ‵ ftrue) ⊛ ‵ (bool.own_val b (v ∷ []))) ⊛ some (λ (ws : Unit {0} × Unit {0}). ‵ (fsep ftrue ftrue) ⊛ ‵ ftrue)))) (id⊢ 𝓤 _) $
        await ! tt $ pick ! (λ b. split ! $ split ! $ move ! (1 ∷ []) $ feq_l ! (λ e. split ! $ at_once ! $
        show ! (λ (is_turn : Bool). guard 𝓤 (v ≡ vbool is_turn) (A.lft κ q)) b $ check ! (ap only e) $ keep ! (0 ∷ []) $ done !))
