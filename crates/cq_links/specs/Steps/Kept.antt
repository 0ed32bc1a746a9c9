-- What two indexes of atoms, of heads and of postconditions, keep for places: the atoms of the place p stand at the keys from p * MAX_ATOMS on.
use Rattle.std.specs.Prelude.{◌≡◌, ℕ, suc, zero, ◌+◌, ◌*◌, ◌/◌, ◌^◌, ◌<◌, ◌≤◌, List, [], length, map, Some, slice_get}
use Rattle.std.specs.List.{cons_option}
use Rattle.std.specs.FinMap.{from_entries, get, entries}
use Rattle.cq_atom.specs.declared.limits.TheConstants.{MAX_ATOMS}
use Rattle.cq_atom.specs.Atom.{AtomRecord}
use Rattle.cq_index.specs.Index.{AtomMap}
use Rattle.cq_links.specs.Links.{Ends, LinkMap, heads_at, posts_at}

-- The atoms at that many keys from the first on.
unfoldable pub atoms_from : AtomMap → ℕ → ℕ → List AtomRecord
atoms_from index first zero = []
atoms_from index first (suc count) = cons_option (get index first) (atoms_from index (suc first) count)

-- What stands at the keys of a place.
abbrev pub ends_in : AtomMap → AtomMap → ℕ → Ends
ends_in heads posts place = record { heads = atoms_from heads (place * MAX_ATOMS) MAX_ATOMS; posts = atoms_from posts (place * MAX_ATOMS) MAX_ATOMS }

-- The places that have a head, with what stands at their keys.
abbrev pub links_of : AtomMap → AtomMap → LinkMap
links_of heads posts = from_entries (map (λ entry. (entry.0 / MAX_ATOMS, ends_in heads posts (entry.0 / MAX_ATOMS))) (entries heads))

-- The ends of a query at a place have keys: there is a head, and there are no more atoms than keys, which are all numbers of the machine.
pub record HasKeys (place : ℕ) (ends : Ends) : Type 0 where
  pub headed : 1 ≤ length ends.heads
  pub few_heads : length ends.heads ≤ MAX_ATOMS
  pub few_posts : length ends.posts ≤ MAX_ATOMS
  pub low : place * MAX_ATOMS + MAX_ATOMS < 2 ^ 64

-- The indexes have the ends of all queries at their keys, and nothing else.
pub record IsKept (links : LinkMap) (heads posts : AtomMap) : Type 0 where
  pub heads_there : (place i : ℕ) → i < MAX_ATOMS → get heads (place * MAX_ATOMS + i) ≡ slice_get (heads_at links place) i
  pub posts_there : (place i : ℕ) → i < MAX_ATOMS → get posts (place * MAX_ATOMS + i) ≡ slice_get (posts_at links place) i
  pub keys : (place : ℕ) (ends : Ends) → get links place ≡ Some ends → HasKeys place ends
