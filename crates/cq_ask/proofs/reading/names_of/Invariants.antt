use Rattle.std.proofs.Common.{◌≡◌, true, map, take}
use Rattle.std.specs.List.{list_all}
use Rattle.cq_atom.specs.Text.{is_name}
use Rattle.cq_ask.proofs.reading.names_of.Given as goal

-- the words so far are names
abbrev pub invariant-loop-word : goal.invariant-loop-word
invariant-loop-word g l = record {
  names : l.names.items ≡ map (λ word. word.now) (take l.word-index l.words);
  all : list_all is_name (map (λ word. word.now) (take l.word-index l.words)) ≡ true;
}
