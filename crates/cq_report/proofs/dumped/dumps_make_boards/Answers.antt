use Rattle.cq_report.proofs.Dumps.{dump_read, dump_made, dump_accepted, dump_shown}
use Rattle.cq_report.proofs.dumped.dumps_make_boards.Goals as goal

pub returns-clause-read : goal.returns-clause-read
returns-clause-read c form journal pool sound fit = dump_read c.commands_read_back.ensures.commands c.commands_read_back.ensures.one_line form journal pool sound fit

pub returns-clause-made : goal.returns-clause-made
returns-clause-made c form journal pool good = dump_made c.pools_are_their_content.ensures.same c.pools_are_their_content.ensures.accepted form journal pool good

pub returns-clause-accepted : goal.returns-clause-accepted
returns-clause-accepted c form journal pool good = dump_accepted c.pools_are_their_content.ensures.same c.pools_are_their_content.ensures.accepted form journal pool good

pub returns-clause-shown : goal.returns-clause-shown
returns-clause-shown c form journal pool good = dump_shown c.pools_are_their_content.ensures.same c.pools_are_their_content.ensures.accepted form journal pool good
