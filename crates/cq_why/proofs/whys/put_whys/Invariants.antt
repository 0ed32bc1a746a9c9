use Rattle.std.proofs.Common.{◌≡◌, ◌-◌, ◌++◌, ℕ, List, [], take}
use Rattle.std.specs.Prelude.{string_bytes}
use Rattle.cq_report.specs.declared.numbering.Numbering.TheVariants.{Plain}
use Rattle.cq_report.specs.Lines.{lines_of}
use Rattle.cq_report.specs.Machine.{begin_state}
use Rattle.cq_why.specs.Why.{AreWhys}
use Rattle.cq_why.proofs.whys.put_whys.Given as goal

-- what is told of the lines that are left is told behind the page
abbrev pub invariant-loop-number : goal.invariant-loop-number
invariant-loop-number g l =
    (l.heard.lines ≡ l.number)
    × (string_bytes l.initial.page ≡ [] → (text : List ℕ) → AreWhys l.origin l.limits l.catalog l.heard (take (l.most - l.number) (lines_of l.rest)) text
    → AreWhys l.origin l.limits l.catalog (begin_state Plain) (take l.most (lines_of l.script)) (string_bytes l.page ++ text))
