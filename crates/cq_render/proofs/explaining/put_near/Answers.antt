use Rattle.std.proofs.Common.{◌++◌, ◌∙◌, ℕ, List, ap, string_bytes}
use Rattle.cq_board.specs.Near.{miss_read}
use Rattle.cq_render.specs.Explain.{miss_words}
use lib.Utf8.{encode}
use Rattle.cq_render.proofs.Lines.{ended_text}
use Rattle.cq_render.proofs.explaining.put_near.Goals as goal

pub returns : goal.returns
unfolding encode
returns g c =
    let page = string_bytes c.args.page.now in
    ended_text c.push.result page (string_bytes c.push_str.new.self) (string_bytes c.push.new.self) (miss_words c.args.board.now.pending (miss_read (λ name. name.now) c.args.near.now))
    (c.in_ok-push_str.ensures.bytes ∙ ap (λ (text : List ℕ). page ++ text) (c.as_str.ensures.value ∙ c.in_ok-words.ensures)) c.push.ensures.bytes
