use Rattle.std.proofs.lemmas.List.{take_rest}
use Rattle.cq_text.proofs.Numbers.{positive_front}
use Rattle.cq_text.proofs.lexing.positive_token.Goals as goal

pub returns-clause-token : goal.returns-clause-token
returns-clause-token g c =
    let h = simp take_rest at c.digits_len-len.ensures.len in
    positive_front c.args.bytes.now c.digits_len-len.result c.number_token.result c.requires h (rw c.number_token.ensures c.positive.ensures)
