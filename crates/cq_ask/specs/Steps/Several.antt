-- Values that are put one after another.
use Rattle.std.specs.Prelude.{List}
use Rattle.std.specs.List.{flat_map}
use Rattle.json.specs.Json.{Json}
use Rattle.json.specs.Token.{Token}
use Rattle.json.specs.Tree.{json_tokens}

-- Their tokens.
abbrev pub all_tokens : List Json → List Token
all_tokens values = flat_map json_tokens values
