use Rattle.std.proofs.Common.{◌≡◌, ℕ, Bool, true, false, not, eqb, filter, ap, eq-eqb, rules}
use Rattle.std.proofs.lemmas.Bool.{ne_eqb}
use Rattle.std.proofs.lemmas.Fn.{filter_same}
use Rattle.cq_select.proofs.Filtering.{left-has, left-from, left-passes}
use Rattle.cq_select.proofs.retreat.leave_out.Goals as goal

pub returns : goal.returns
returns g c m =
    let member = c.args.member in
    let all = c.args.conflict.now.items in
    let differs : ℕ → Bool = λ q. not (eqb q member) in
    let kept : c.retain.new.self.items ≡ filter differs all = filter_same _ _ _ (λ x b f' k. search rules) _ _ c.retain.ensures.filtered in
    rw kept (
      λ i. (left-from differs all m i, λ same. let passes = left-passes differs all m i in let never : false ≡ true = rw (eq-eqb m member same) at passes in cc),
      λ h. left-has differs all m h.0 (ap not (ne_eqb m member h.1)),
    )
