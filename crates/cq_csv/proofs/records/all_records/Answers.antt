use Rattle.csv.specs.Reading.{strip_bom}
use Rattle.cq_csv.specs.Csv.{config_of}
use Rattle.cq_csv.proofs.Csv.{all_are}
use Rattle.cq_csv.proofs.records.all_records.Goals as goal

pub returns : goal.returns
returns c = λ layout bytes. all_are (config_of layout) (strip_bom bytes)
