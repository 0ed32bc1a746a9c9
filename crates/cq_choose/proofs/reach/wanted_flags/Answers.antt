use Rattle.std.proofs.Common.{◌∙◌, map, ap, arith}
use Rattle.std.specs.List.{list_any}
use Rattle.std.specs.Str.{bytes_eq}
use Rattle.std.proofs.lemmas.List.{take_all}
use Rattle.cq_choose.proofs.Reaching.{map-more}
use Rattle.cq_choose.proofs.reach.wanted_flags.Goals as goal

pub loop-name-preserved : goal.loop-name-preserved
loop-name-preserved g c =
    c.in_ok-push.ensures.items
    ∙ map-more (λ name. list_any (bytes_eq name.now) c.args.wanted.now) c.loop-name.flags.items c.is_wanted.result c.args.names.now c.loop-name.name-index c.name-item.result (omega arith) c.name-item.is c.loop-name.invariant c.is_wanted.ensures

pub returns : goal.returns
returns g c = c.loop-name.invariant ∙ ap (map (λ name. list_any (bytes_eq name.now) c.args.wanted.now)) (take_all c.loop-name.name-index c.args.names.now (omega arith))
