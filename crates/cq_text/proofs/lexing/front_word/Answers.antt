use Rattle.std.proofs.lemmas.List.{take_rest}
use Rattle.cq_text.proofs.Words.{word_front}
use Rattle.cq_text.proofs.lexing.front_word.Goals as goal

pub new-requires : goal.new-requires
new-requires c =
    let h = simp take_rest at c.word_len-len.ensures.len in
    word_front c.args.bytes.now c.word_len-len.result c.requires h
