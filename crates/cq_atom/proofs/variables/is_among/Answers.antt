use Rattle.std.specs.Prelude.{string_bytes}
use Rattle.std.specs.Str.{bytes_eq}
use Rattle.std.proofs.Common.{sym, ◌∙◌, map}
use Rattle.cq_atom.proofs.Among.{among-variable}
use Rattle.cq_atom.proofs.Shows.{variable_is}
use Rattle.cq_atom.proofs.Firsts.{list_any-map}
use Rattle.cq_atom.proofs.variables.is_among.Goals as goal

pub returns-in-Some : goal.returns-in-Some
returns-in-Some g c =
    c.is_listed.ensures ∙ sym (list_any-map string_bytes (bytes_eq c.in-Some.name.now) c.args.names.now)
    ∙ sym (among-variable (map string_bytes c.args.names.now) c.args.term.now c.in-Some.name.now (variable_is c.args.term.now c.in-Some.name.now c.in-Some.ensures.value))
