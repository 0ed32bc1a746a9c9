use Rattle.std.proofs.Common.{sym}
use Rattle.std.proofs.lemmas.List.{take_rest}
use Rattle.cq_text.proofs.Blank.{blank_none, blank_some}
use Rattle.cq_text.proofs.lexing.is_blank.Goals as goal

pub returns-in-empty : goal.returns-in-empty
returns-in-empty c =
    let h = simp take_rest at c.in-empty.len_below in
    sym (blank_none c.args.bytes.now c.spaces_len.result c.spaces_len.ensures.len h)

pub returns-in-len1-up : goal.returns-in-len1-up
returns-in-len1-up c =
    let h = simp take_rest at c.in-len1-up.len_at_least in
    simp take_rest (sym (blank_some c.args.bytes.now c.spaces_len.result c.spaces_len.ensures.len h))
