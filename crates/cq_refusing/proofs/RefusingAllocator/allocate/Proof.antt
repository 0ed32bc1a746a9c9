-- It refuses the allocation whose turn it is, and else answers what the inner allocator answers. Assumes `Logic`.
use Rattle.cq_refusing.proofs.Steps.{◌≡◌, Bool, true, false, [], ◌∷◌, Ok, Err, refl, w64, proved, after, Al, token, seen, Answer, answer_val, Answer-typed, Answer-Ok, Answer-err, Takes, at_takes, Answered, Takes-goes, Takes-gives, answers, block_if_ok, Fn, Val, vbool, inst_fn, id⊢, ftrue, flft, size, align, capped, ◌⊑◌, ⊑_trans, fact, tables, ‵, raw, ◌⊛◌, some, later, given, prop, at_ret, Sq, ◌$◌, ◌∵◌, !, qed, move, keep, use0, use1, use2, split, join, pick, learn, fsplit, fjoin, suffices, await, done, agg, enter, lit, addr, stop, fld, no_more, and_then, first, branches, skips, exec, returns, returns_within, alloc_all, pass_all, free_all, look_at, get, through, sets, lands_as, env, usize, yes, unhide, uint_vals, uint_Tells, owns, block_ptr, shr_vals, plain, types_at, heard, nothing, calls_at, Ended, framed, Stays, walk_of, stay_dropped, Goes-dropped, ends_at}
use Rattle.cq_refusing.proofs.Shared.{args, self, inner_at, allocations_at, Count, at_count, Count-goes, Count-gives}
use Rattle.cq_refusing.proofs.Allocations.count_one.Met.{met as counts}
use Rattle.cq_refusing.specs.contracts.RefusingAllocator.allocate as f
use Rattle.cq_refusing.proofs.RefusingAllocator.allocate.Statement.{statement}
use Rattle.cq_refusing.proofs.RefusingAllocator.allocate.Code as code

module _ (Z : Al) where
  abbrev ended : Ended
  ended = f.ended Z.row Z.g Z.d Z.drops

  abbrev stayed : Stays ended.signature.params ended.kept
  stayed = (stay_dropped (self Z) yes, (stay_dropped (plain (λ _. usize)) yes, (stay_dropped (plain (λ _. usize)) yes, tt)))

pub allocate_spec : {M : Type 1} → statement M
allocate_spec 𝓤 𝓛 𝓜 𝓡 wired B L B_ghosts B_dict B_drops met _ =
    let Z : Al = record { row = B; laws = L; g = B_ghosts; d = B_dict; drops = B_drops } in
    let here : Fn = inst_fn (args Z) code.function in
    let c = f.clauses B B_ghosts B_dict B_drops 𝓛 𝓜.mem 𝓡.returns in let W = walk_of 𝓛 (ended Z) (stayed Z) c in
    let 𝓣 = tables 𝓤 𝓛.H 𝓜 𝓡 𝓡.env in
    let goes = Goes-dropped 𝓛 2 (plain (λ _. usize)) yes (λ κs x w. refl) in
    proved 𝓛 (ended Z) (stayed Z) c 𝓜 𝓡 (Goes-dropped 𝓛 2 (self Z) yes (λ κs x w. refl), (goes, (goes, tt)))
    (f.Key.name (args Z)) here (code.unfolded 𝓤 𝓛.H 𝓜 𝓡 wired (B, tt) B_dict B_drops)
    (λ κs. (shr_vals, (uint_vals w64, (uint_vals w64, tt)))) (λ κs. ((λ r vs s. s.0), (uint_Tells w64, (uint_Tells w64, tt)))) (λ κs qs bounds a τ are.
    let κ₁ = κs.0 in let κ₂ = κs.1.0 in let q₁ = qs.0 in let q₂ = qs.1.0 in
    let r = a.0 in let n = a.1.0 in let al = a.1.1.0 in
    let y : W.Ghost = ((κs, qs, bounds, a, (shr_vals r, (uint_vals w64 n, (uint_vals w64 al, tt)))), τ) in
    let Said : Type 0 = (capped (size τ) ≡ n) × (capped (align τ) ≡ al) in
    let out : (v : Val) (x : Answer.Denot) → Sq 𝓛 (‵ (Answer.own_val x (v ∷ [])) ∷ ‵ (block_if_ok (token Z r.now.inner) τ x) ∷ ‵ (flft κ₁ q₁) ∷ (‵ (flft κ₂ q₂) ⊛ ‵ ftrue) ∷ []) (prop (W.post y v)) = λ v x.
    suffices ! _ (ends_at 𝓛 (ended Z) (stayed Z) c y v x (tt, (tt, (tt, tt))) (tt, (tt, (tt, tt)))) $
    nothing ! $ nothing ! $ fjoin ! $ nothing ! $ fjoin ! $ nothing ! $ fjoin ! $ join ! $ move ! (2 ∷ 3 ∷ []) $ join ! $ join ! $ done ! in
    qed 𝓛 (((‵ (flft κ₁ q₁) ⊛ ‵ (flft κ₂ q₂) ⊛ ‵ ftrue) ⊛ ‵ (owns (types_at (ended Z).signature.params κs) a y.0.4)) ∷ (raw (fact 𝓤 (κ₂ ⊑ B.lives)) ⊛ raw (fact 𝓤 Said)) ∷ []) ∵
    move ! (1 ∷ []) $ split ! $ heard ! (κ₂ ⊑ B.lives) (λ le. heard ! Said (λ said.
    split ! $ split ! $ move ! (2 ∷ []) $ fsplit ! $ fsplit ! $ move ! (1 ∷ []) $ unhide ! $ fsplit ! $ fsplit ! $
    use1 𝓛 (‵ (seen Z κ₁ (inner_at Z r) r.now.inner)) (id⊢ 𝓤 _) $ move ! (1 ∷ []) $ fsplit ! $ keep ! (0 ∷ 6 ∷ 2 ∷ 7 ∷ []) $
    -- [the allocations; the token of κ₁; the inner allocator; the token of κ₂]
    enter ! _ _ _ _ _ $
    alloc_all ! (λ l. pass_all ! refl ((tt, tt), ((tt, record { fits = are.1.0.1 }), ((tt, record { fits = are.1.1.0.1 }), tt))) $
    sets ! (addr ! (through ! refl (fld ! refl (stop !)))) refl (tt, tt) $
    let m = 𝓜.mem in let run = 𝓡.returns in let fm = framed 𝓤 𝓛.H 𝓜 𝓣 in
    let g = r.now.allocations in let at = allocations_at Z r in
    use2 𝓛 (raw ((Count 𝓛 m run).pre (at_count 𝓛 m run κ₁ q₁ g at))) (Count-goes 𝓛 m run κ₁ q₁ g at) $
    calls_at ! fm (Count 𝓛 m run) (counts 𝓤 𝓛 𝓜 𝓡 (code.calls-cq_refusing::Allocations::count_one 𝓡.env wired)) (at_count 𝓛 m run κ₁ q₁ g at) (and_then ! (get ! refl) (no_more !)) (λ u.
    use1 𝓛 (later (some (λ (is_turn : Bool). given (u ≡ vbool is_turn) (‵ (flft κ₁ q₁))))) (Count-gives 𝓛 m run κ₁ q₁ g at u) $
    await ! tt $ pick ! (λ is_turn. learn ! (λ told. lands_as ! told refl (tt, tt) $
    -- [the token of κ₁; the inner allocator; the token of κ₂]
    first ! $ branches ! (get ! refl)
    (λ turn. sets ! (agg ! (no_more !)) refl (tt, tt) $
    sets ! (agg ! (and_then ! (lit ! tt) (and_then ! (get ! refl) (no_more !)))) refl (Answer-typed false 0 0) $
    returns_within ! (W.post y) refl (look_at ! 0 refl) $ free_all ! refl $ keep ! (0 ∷ 2 ∷ []) $ nothing ! $
    use0 𝓛 (‵ (Answer.own_val (Err (record {})) (answer_val false 0 0 ∷ []))) (Answer-err 𝓛) $ out (answer_val false 0 0) (Err (record {})))
    (λ other. skips ! $ exec ! 𝓣.C 𝓣.Λ (env here.locals l) (after 3 here.body) (at_ret _ (W.post y)) $
    sets ! (addr ! (through ! refl (fld ! refl (stop !)))) refl (tt, tt) $
    let p = inner_at Z r in let h = r.now.inner in
    let z : (Takes Z 𝓛 m run).Ghost = at_takes Z 𝓛 m run κ₁ q₁ p h n al τ in
    move ! (1 ∷ 0 ∷ []) $
    use2 𝓛 (raw ((Takes Z 𝓛 m run).pre z)) (Takes-goes Z 𝓛 m run κ₁ q₁ p h (⊑_trans κ₁ κ₂ B.lives bounds.0 le) n al τ said.0 said.1 are.1.0.1 are.1.1.0.1) $
    calls_at ! fm (Takes Z 𝓛 m run) (met.allocate B_drops) z (and_then ! (get ! refl) (and_then ! (get ! refl) (and_then ! (get ! refl) (no_more !)))) (λ v.
    use1 𝓛 (later (raw (Answered Z 𝓛 m run h τ v) ⊛ ‵ (flft κ₁ q₁))) (Takes-gives Z 𝓛 m run κ₁ q₁ p h n al τ v) $ await ! tt $ split ! $
    answers Z ! m run h τ v
    (λ b o e. fjoin ! $ lands_as ! e refl (Answer-typed true b o) $ returns ! (look_at ! 0 refl) $ free_all ! refl $
    use0 𝓛 (‵ (Answer.own_val (Ok (block_ptr b o)) (answer_val true b o ∷ []))) (Answer-Ok 𝓛 b o) $ out (answer_val true b o) (Ok (block_ptr b o)))
    (λ e. nothing ! $ lands_as ! e refl (Answer-typed false 0 0) $ returns ! (look_at ! 0 refl) $ free_all ! refl $
    use0 𝓛 (‵ (Answer.own_val (Err (record {})) (answer_val false 0 0 ∷ []))) (Answer-err 𝓛) $ out (answer_val false 0 0) (Err (record {}))))))))))))
