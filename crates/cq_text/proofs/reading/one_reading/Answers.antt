use Rattle.cq_text.proofs.OneReading.{one_command, one_query, one_row}
use Rattle.cq_text.proofs.reading.one_reading.Goals as goal

pub returns-clause-commands : goal.returns-clause-commands
returns-clause-commands c form text = one_command form text

pub returns-clause-queries : goal.returns-clause-queries
returns-clause-queries c form text = one_query form text

pub returns-clause-rows : goal.returns-clause-rows
returns-clause-rows c form text = one_row form text
