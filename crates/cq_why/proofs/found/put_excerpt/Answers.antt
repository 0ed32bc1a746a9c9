use Rattle.std.proofs.Common.{◌≡◌, ◌++◌, ◌∙◌, ◌-◌, ℕ, List, length, drop, ap, subst}
use Rattle.std.specs.Prelude.{codes, string_bytes, OnOk}
use Rattle.cq_why.specs.Why.{shown}
use Rattle.cq_why.proofs.Puts.{put_three}
use Rattle.cq_why.proofs.found.put_excerpt.Goals as goal

pub returns : goal.returns
returns g c =
    let front = c.args.front.now in
    let rest = c.args.rest.now in
    let before : c.split_at.result.1.now ≡ drop (length front - 40) front = c.split_at.ensures.back ∙ ap (λ (n : ℕ). drop n front) c.saturating_sub.ensures in
    subst (λ (b : List ℕ). OnOk c.put_shown-2.result (string_bytes c.put_shown-2.new.page ≡ string_bytes c.args.page.now ++ (shown (drop (length front - 40) front) ++ (codes "^" ++ shown b)))) c.shortened.ensures
    (subst (λ (a : List ℕ). OnOk c.put_shown-2.result (string_bytes c.put_shown-2.new.page ≡ string_bytes c.args.page.now ++ (shown a ++ (codes "^" ++ shown c.shortened.result.now)))) before
    (put_three (string_bytes c.args.page.now) (string_bytes c.put_shown.new.page) (string_bytes c.push_str.new.self) (string_bytes c.put_shown-2.new.page) (shown c.split_at.result.1.now) (codes "^") (shown c.shortened.result.now) c.put_shown-2.result
    c.in_ok-put_shown.ensures c.in_ok-push_str.ensures.bytes c.put_shown-2.ensures))
