use Rattle.std.proofs.Common.{◌≡◌, ℕ, ◌<◌, [], List, ⊎_elim, inl, inr, subst, sym, ◌∙◌, arith}
use Rattle.std.specs.List.{Contains}
use Rattle.cq_select.proofs.retreat.reopen.Goals as goal

no-other : (others shown : List ℕ) → shown ≡ others → shown ≡ [] → (m : ℕ) → Contains others m → ⊥
no-other others shown is none m i = let (k, low, at) = subst (λ (l : List ℕ). Contains l m) (sym is ∙ none) i in absurd (let never : k < 0 = low in omega arith)

pub returns-in_err-add_reasons-clause-dead : goal.returns-in_err-add_reasons-clause-dead
returns-in_err-add_reasons-clause-dead g c m marked =
    ⊎_elim (λ old. inl old) (λ h. inr (h.0, λ other i ne. no-other c.leave_out.new.conflict.items c.deref.result.now c.deref.ensures.value h.1 other ((c.leave_out.ensures other).1 (i, ne))))
    (c.mark.ensures.marks m marked)

pub returns-clause-reason : goal.returns-clause-reason
returns-clause-reason g c m =
    let left = c.leave_out.ensures m in
    let added = rw c.deref-2.ensures.value at (c.in_ok-add_reasons.ensures m) in (
      λ h. ⊎_elim (λ old. inl old) (λ i. inr (left.0 i)) (added.0 h),
      λ h. added.1 (⊎_elim (λ old. inl old) (λ i. inr (left.1 i)) h),
    )

pub returns-clause-dead : goal.returns-clause-dead
returns-clause-dead g c m marked =
    ⊎_elim (λ old. inl old) (λ h. inr (h.0, λ other i ne. no-other c.leave_out.new.conflict.items c.deref.result.now c.deref.ensures.value h.1 other ((c.leave_out.ensures other).1 (i, ne))))
    (c.mark.ensures.marks m marked)
