use Rattle.std.proofs.Common.{◌∙◌, ap, codes}
use Rattle.std.specs.Prelude.{option_map}
use Rattle.cq_report.specs.Refusals.{members_of_parts, part_member, place_member}
use Rattle.cq_report.specs.Steps.Lines.{number_bytes}
use Rattle.cq_report.proofs.Parts.{as_members}
use Rattle.cq_report.proofs.reply.ReplyLine.of_members.Goals as goal

pub returns : goal.returns
returns c =
    let it = c.parts.inside in
    as_members (codes ",\"refused\":\"") it.word.now c.part_member.result.0.now c.part_member.result.1.now c.place_member-number.result.0.now (number_bytes c.place_member-number.result.1) (codes "\"")
    (part_member (option_map (λ part. part.now) it.part)) (place_member it.place) c.part_member.ensures c.place_member-number.ensures
    ∙ ap members_of_parts (c.parts.view_is ∙ c.parts-parts.ensures)
