use Rattle.std.proofs.Common.{◌∙◌, ap}
use Rattle.std.specs.List.{list_all}
use Rattle.cq_atom.specs.Text.{is_plain_byte}
use Rattle.cq_atom.proofs.Plain.{all_plain}
use Rattle.cq_atom.proofs.word.is_plain.Goals as goal

pub returns : goal.returns
returns c = c.are_plain_bytes.ensures ∙ all_plain c.as_bytes.result.now ∙ ap (list_all is_plain_byte) c.as_bytes.ensures.value
