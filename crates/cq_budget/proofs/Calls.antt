-- What the walks say of a `&` to a `Budget`, and of the calls of its count. Assumes `Logic`.
--     args, self               the type arguments of a method's code, and its first parameter.      args_with, self_of_three      the same of `grow` and `shrink`
--     inner_at, count_at       where the two fields lie
--     Takes, at_bytes          the contract of `take`, and what a caller of it or of `give` picks
--     Takes-goes, Takes-gives  what `take` is handed, a `&` to the count and a token of its lifetime, and what a caller has of it: an attempt
--     Frees, ..                the same of `give`
--     Asks, Ends, ..           the same of `is_refused` and `end`, which are handed the attempt
--     Betweens, ..             the same of `bytes_between`
use Rattle.cq_budget.proofs.Steps.{◌≡◌, ℕ, ◌+◌, ◌*◌, ◌<◌, ◌≤◌, ◌^◌, Bool, List, [], ◌∷◌, refl, ap, Bor, Al, α, Ura, Args, a_type, dnil, dcons, Val, vunit, vbool, vint, vptr, w64, SProp, ent, sep, ex, guard, id⊢, Lft, Share, ftrue, fsep, flft, Memory, size, align, up, Routine, Logic, sem, Fun, fact, fact_i, emp, T, has_ty, WT, ‵, raw, ◌⊛◌, some, later, ◌$◌, ◌∵◌, !, qed, move, keep, split, join, pick, fjoin, feq_i, feq_l, flt_i, flt_l, fsplit, check, show, await, updating, at_once, use0, use1, done, peeks, Is, shows, lasts, RefOf, bool, unit, usize, hidden_shr, bounded, layout, param, RattleType, Slot, plain, nothing, only, Contract, triple_of}
use Rattle.cq_budget.specs.contracts.Budget as budget
use Rattle.cq_budget.specs.contracts.count.Count as count
use Rattle.cq_budget.specs.contracts.count.Count.take as take
use Rattle.cq_budget.specs.contracts.count.Count.give as give
use Rattle.cq_budget.specs.contracts.count.Attempt as attempt
use Rattle.cq_budget.specs.contracts.count.Attempt.is_refused as is_refused
use Rattle.cq_budget.specs.contracts.count.Attempt.end as end
use Rattle.cq_budget.specs.contracts.bytes_between as between
use Rattle.cq_budget.proofs.count.Attempt.TheLaws.{the_row_laws as attempt_laws}

abbrev pub Counted : RattleType
Counted = count.the_row

abbrev pub Attempted : RattleType
Attempted = attempt.the_row

abbrev pub Typed : Val → Type 0
Typed v = T (has_ty (layout Attempted) v) × WT v

module _ (Z : Al) where
  abbrev pub args : Args
  args = bounded (a_type ∷ []) (Z.row, tt) (dcons Z.d (dcons Z.drops dnil))

  abbrev pub self : Slot 2
  self = RefOf (0 ∷ []) tt (plain (λ _. budget.the_row (param 0 Z.row))) (λ _. tt)

  abbrev pub self_of_three : Slot 3
  self_of_three = RefOf (0 ∷ []) tt (plain (λ _. budget.the_row (param 0 Z.row))) (λ _. tt)

  abbrev pub args_with : RattleType → Args
  args_with X = bounded (a_type ∷ a_type ∷ []) (Z.row, (X, tt)) (dcons Z.d (dcons Z.drops dnil))

  module _ (r : Bor (budget.the_row Z.row).Denot) where
    abbrev pub inner_at : ℕ × ℕ
    inner_at = (r.ref_ptr.0, r.ref_ptr.1 + up (align (α Z)) 0)

    abbrev pub count_at : ℕ × ℕ
    count_at = (r.ref_ptr.0, r.ref_ptr.1 + up (align (layout Counted)) (up (align (α Z)) 0 + size (α Z)))

module _ {M : Type 1} {𝓤 : Ura M} (𝓛 : Logic 𝓤) (at_mem : Memory → SProp 𝓤) (run : Routine → Fun 𝓤) where
  open 𝓛 use {H, A}

  abbrev pub Takes : Contract 𝓤
  Takes = triple_of 𝓛 take.signature (take.spec 𝓛 at_mem run)

  abbrev pub Frees : Contract 𝓤
  Frees = triple_of 𝓛 give.signature (give.spec 𝓛 at_mem run)

  abbrev pub Betweens : Contract 𝓤
  Betweens = triple_of 𝓛 between.signature (between.spec 𝓛 at_mem run)

  abbrev pub Asks : Contract 𝓤
  Asks = triple_of 𝓛 is_refused.signature (is_refused.spec 𝓛 at_mem run)

  abbrev pub Ends : Contract 𝓤
  Ends = triple_of 𝓛 end.signature (end.spec 𝓛 at_mem run)

  module _ (κ : Lft) (q : Share) (g : Counted.Denot) (c : ℕ × ℕ) (n : ℕ) where
    abbrev pub at_bytes : Takes.Ghost
    at_bytes = (((κ, tt), (q, tt), tt, (record { ref_ptr = c; now = g }, (n, tt)), (vptr c.0 c.1 ∷ [], (vint w64 n ∷ [], tt))), tt)

    abbrev pub Held : Val → SProp 𝓤
    Held v = ex 𝓤 (λ (x : Attempted.Denot). guard 𝓤 (Typed v) (sep 𝓤 (sem 𝓛 (Attempted.own_val x (v ∷ []))) (A.lft κ q)))

    pub Takes-goes : n < 2 ^ 64 → ent 𝓤 (sep 𝓤 (sem 𝓛 (hidden_shr Counted κ g c.0 c.1)) (A.lft κ q)) (Takes.pre at_bytes)
    Takes-goes fits =
        qed 𝓛 (‵ (hidden_shr Counted κ g c.0 c.1) ∷ ‵ (flft κ q) ∷ []) ∵
        nothing ! $ flt_i ! n (2 ^ 64) fits $ feq_i ! (List Val) (vint w64 n ∷ []) _ refl $ fjoin ! $ fjoin ! $ move ! (1 ∷ []) $
        feq_i ! (List Val) (vptr c.0 c.1 ∷ []) _ refl $ fjoin ! $ fjoin ! $
        nothing ! $ move ! (2 ∷ []) $ join ! $ join ! $ nothing ! $ move ! (1 ∷ []) $ done !

    pub Takes-gives : (v : Val) → ent 𝓤 (Takes.post at_bytes v) (H.⇛ (Held v))
    Takes-gives v =
        qed 𝓛 (raw (Takes.post at_bytes v) ∷ []) ∵ updating ! $
        use1 𝓛 (later (some (λ (x : Attempted.Denot). ((‵ (flft κ q) ⊛ ‵ ftrue) ⊛ ‵ (Attempted.own_val x (v ∷ []))) ⊛ some (λ (ws : Unit {0} × (Unit {0} × Unit {0})). ‵ (fsep ftrue (fsep ftrue ftrue)) ⊛ raw (fact 𝓤 _))))) (id⊢ 𝓤 _) $
        await ! tt $ pick ! (λ x. split ! $ split ! $ move ! (1 ∷ []) $ peeks ! Attempted (Is Attempted) (shows 𝓛 Attempted) x (v ∷ []) (λ is. move ! (1 ∷ []) $ split ! $ at_once ! $
        show ! (λ (y : Attempted.Denot). guard 𝓤 (Typed v) (sep 𝓤 (sem 𝓛 (Attempted.own_val y (v ∷ []))) (A.lft κ q))) x $
        check ! ((attempt_laws.lawful 𝓛).typed x (v ∷ []) is).0 $ keep ! (2 ∷ 0 ∷ []) $ done !))

    pub Frees-goes : n < 2 ^ 64 → ent 𝓤 (sep 𝓤 (sem 𝓛 (hidden_shr Counted κ g c.0 c.1)) (A.lft κ q)) (Frees.pre at_bytes)
    Frees-goes fits =
        qed 𝓛 (‵ (hidden_shr Counted κ g c.0 c.1) ∷ ‵ (flft κ q) ∷ []) ∵
        nothing ! $ flt_i ! n (2 ^ 64) fits $ feq_i ! (List Val) (vint w64 n ∷ []) _ refl $ fjoin ! $ fjoin ! $ move ! (1 ∷ []) $
        feq_i ! (List Val) (vptr c.0 c.1 ∷ []) _ refl $ fjoin ! $ fjoin ! $
        nothing ! $ move ! (2 ∷ []) $ join ! $ join ! $ nothing ! $ move ! (1 ∷ []) $ done !

    pub Frees-gives : (v : Val) → ent 𝓤 (Frees.post at_bytes v) (H.⇛ (Held v))
    Frees-gives v =
        qed 𝓛 (raw (Frees.post at_bytes v) ∷ []) ∵ updating ! $
        use1 𝓛 (later (some (λ (x : Attempted.Denot). ((‵ (flft κ q) ⊛ ‵ ftrue) ⊛ ‵ (Attempted.own_val x (v ∷ []))) ⊛ some (λ (ws : Unit {0} × (Unit {0} × Unit {0})). ‵ (fsep ftrue (fsep ftrue ftrue)) ⊛ raw (fact 𝓤 _))))) (id⊢ 𝓤 _) $
        await ! tt $ pick ! (λ x. split ! $ split ! $ move ! (1 ∷ []) $ peeks ! Attempted (Is Attempted) (shows 𝓛 Attempted) x (v ∷ []) (λ is. move ! (1 ∷ []) $ split ! $ at_once ! $
        show ! (λ (y : Attempted.Denot). guard 𝓤 (Typed v) (sep 𝓤 (sem 𝓛 (Attempted.own_val y (v ∷ []))) (A.lft κ q))) x $
        check ! ((attempt_laws.lawful 𝓛).typed x (v ∷ []) is).0 $ keep ! (2 ∷ 0 ∷ []) $ done !))

  module _ (x : Attempted.Denot) (v : Val) where
    abbrev pub at_attempt : Asks.Ghost
    at_attempt = ((tt, tt, tt, (x, tt), (v ∷ [], tt)), tt)

    pub Asks-goes : ent 𝓤 (sem 𝓛 (Attempted.own_val x (v ∷ []))) (Asks.pre at_attempt)
    Asks-goes = qed 𝓛 (‵ (Attempted.own_val x (v ∷ [])) ∷ []) ∵ nothing ! $ move ! (1 ∷ []) $ fjoin ! $ nothing ! $ join ! $ nothing ! $ move ! (1 ∷ []) $ done !

    pub Asks-gives : (u : Val) → ent 𝓤 (Asks.post at_attempt u) (H.⇛ (ex 𝓤 (λ (refused : Bool). fact 𝓤 (u ≡ vbool refused))))
    Asks-gives u =
        qed 𝓛 (raw (Asks.post at_attempt u) ∷ []) ∵ updating ! $
        use1 𝓛 (later (some (λ (b : Bool). (‵ ftrue ⊛ ‵ (bool.own_val b (u ∷ []))) ⊛ some (λ (ws : (Unit {0} × (Unit {0} × Unit {0})) × Unit {0}). ‵ (lasts is_refused.ended tt (x, tt) ws) ⊛ raw (fact 𝓤 _))))) (id⊢ 𝓤 _) $
        await ! tt $ pick ! (λ b. split ! $ split ! $ move ! (1 ∷ []) $ feq_l ! (λ e. at_once ! $ keep ! [] $ show ! (λ (refused : Bool). fact 𝓤 (u ≡ vbool refused)) b $
        use0 𝓛 (raw (fact 𝓤 (u ≡ vbool b))) (fact_i 𝓤 (u ≡ vbool b) (emp 𝓤) (ap only e)) $ done !))

    pub Ends-goes : ent 𝓤 (sem 𝓛 (Attempted.own_val x (v ∷ []))) (Ends.pre at_attempt)
    Ends-goes = qed 𝓛 (‵ (Attempted.own_val x (v ∷ [])) ∷ []) ∵ nothing ! $ move ! (1 ∷ []) $ fjoin ! $ nothing ! $ join ! $ nothing ! $ move ! (1 ∷ []) $ done !

    pub Ends-gives : (u : Val) → ent 𝓤 (Ends.post at_attempt u) (H.⇛ (fact 𝓤 (u ≡ vunit)))
    Ends-gives u =
        qed 𝓛 (raw (Ends.post at_attempt u) ∷ []) ∵ updating ! $
        use1 𝓛 (later (some (λ (t : Unit {0}). (‵ ftrue ⊛ ‵ (unit.own_val t (u ∷ []))) ⊛ some (λ (ws : (Unit {0} × (Unit {0} × Unit {0})) × Unit {0}). ‵ (lasts end.ended tt (x, tt) ws) ⊛ ‵ ftrue)))) (id⊢ 𝓤 _) $
        await ! tt $ pick ! (λ t. split ! $ split ! $ move ! (1 ∷ []) $ feq_l ! (λ e. at_once ! $ keep ! [] $
        use0 𝓛 (raw (fact 𝓤 (u ≡ vunit))) (fact_i 𝓤 (u ≡ vunit) (emp 𝓤) (ap only e)) $ done !))

  module _ (size small large : ℕ) where
    abbrev pub at_sizes : Betweens.Ghost
    at_sizes = ((tt, tt, tt, (size, (small, (large, tt))), (vint w64 size ∷ [], (vint w64 small ∷ [], (vint w64 large ∷ [], tt)))), tt)

    pub Betweens-goes : size < 2 ^ 64 → small < 2 ^ 64 → large < 2 ^ 64 → (small ≤ large) × (large * size < 2 ^ 64) → ent 𝓤 (emp 𝓤) (Betweens.pre at_sizes)
    Betweens-goes fits₀ fits₁ fits₂ asked =
        qed 𝓛 [] ∵ nothing ! $ flt_i ! large (2 ^ 64) fits₂ $ feq_i ! (List Val) (vint w64 large ∷ []) _ refl $ fjoin ! $ fjoin ! $
        flt_i ! small (2 ^ 64) fits₁ $ feq_i ! (List Val) (vint w64 small ∷ []) _ refl $ fjoin ! $ fjoin ! $
        flt_i ! size (2 ^ 64) fits₀ $ feq_i ! (List Val) (vint w64 size ∷ []) _ refl $ fjoin ! $ fjoin ! $
        nothing ! $ join ! $ use0 𝓛 (raw (fact 𝓤 ((small ≤ large) × (large * size < 2 ^ 64)))) (fact_i 𝓤 ((small ≤ large) × (large * size < 2 ^ 64)) (emp 𝓤) asked) $ move ! (1 ∷ []) $ done !

    pub Betweens-gives : (u : Val) → ent 𝓤 (Betweens.post at_sizes u) (H.⇛ (ex 𝓤 (λ (n : ℕ). fact 𝓤 ((u ≡ vint w64 n) × (n < 2 ^ 64)))))
    Betweens-gives u =
        qed 𝓛 (raw (Betweens.post at_sizes u) ∷ []) ∵ updating ! $
        use1 𝓛 (later (some (λ (n : ℕ). (‵ ftrue ⊛ ‵ (usize.own_val n (u ∷ []))) ⊛ some (λ (ws : Unit {0} × (Unit {0} × (Unit {0} × Unit {0}))). ‵ (lasts between.ended tt (size, (small, (large, tt))) ws) ⊛ raw (fact 𝓤 _))))) (id⊢ 𝓤 _) $
        await ! tt $ pick ! (λ n. split ! $ split ! $ move ! (1 ∷ []) $ fsplit ! $ feq_l ! (λ e. flt_l ! (λ fits. at_once ! $ keep ! [] $ show ! (λ (n : ℕ). fact 𝓤 ((u ≡ vint w64 n) × (n < 2 ^ 64))) n $
        use0 𝓛 (raw (fact 𝓤 ((u ≡ vint w64 n) × (n < 2 ^ 64)))) (fact_i 𝓤 ((u ≡ vint w64 n) × (n < 2 ^ 64)) (emp 𝓤) (ap only e, fits)) $ done !)))
