use Rattle.cq_text.proofs.PrintedCommands.{command_back, edit_fits_two}
use Rattle.cq_text.proofs.PrintedLines.{command_is_line}
use Rattle.cq_text.proofs.printing.commands.commands_read_back.Goals as goal

pub returns-clause-commands : goal.returns-clause-commands
returns-clause-commands c form command sound fits = command_back form command sound fits

pub returns-clause-edits : goal.returns-clause-edits
returns-clause-edits c edit sound = edit_fits_two edit sound

pub returns-clause-one_line : goal.returns-clause-one_line
returns-clause-one_line c form command sound fits = command_is_line form command sound fits
