-- The lines of a dump, part by part.
use Rattle.std.proofs.Common.{◌≡◌, ℕ, ◌+◌, List, [], ◌∷◌, ◌++◌, length, map, Some, None, refl, sym, ap, subst, ◌∙◌, append_assoc, append-nil}
use Rattle.std.specs.Prelude.{max, IsTrue}
use Rattle.std.specs.List.{All, AllByRecursion, flat_map, enumerate_from}
use Rattle.std.proofs.lemmas.List.{length-map, map-append}
use Rattle.std.proofs.lemmas.List.Concat.{flat_map-append}
use Rattle.std.proofs.lemmas.List.Elements.{All-from_recursion, recursion_from_All}
use Rattle.std.proofs.lemmas.List.Folds.{flat_map-map}
use Rattle.cq_atom.specs.declared.fault.Bad.TheVariants.{BadName}
use Rattle.cq_atom.specs.declared.edit.EditKind.TheVariants.{Post, Insert}
use Rattle.cq_atom.specs.Text.{is_relation_name}
use Rattle.cq_atom.specs.Atom.{RowRecord, arity_fault}
use Rattle.cq_text.specs.declared.command.CommandKind.TheVariants.{Setup, Edit, Publish}
use Rattle.cq_text.specs.declared.command.SetupLine.TheVariants.{Board, Limits}
use Rattle.cq_text.specs.declared.form.Form.{Form}
use Rattle.cq_text.specs.Grammar.{CommandContent}
use Rattle.cq_text.specs.Sound.{IsSoundCommand}
use Rattle.cq_rel.specs.Tables.{Declaration}
use Rattle.cq_board.specs.Pool.{PendingQuery, PoolRecord, IsPool}
use Rattle.cq_board.specs.Content.{content_edits}
use Rattle.cq_render.specs.Dump.{command_line, relation_command, setup_commands, dump_journal, dump_commands, dump}
use Rattle.cq_render.specs.Steps.Dumping.{insert_command, post_command}
use Rattle.cq_render.specs.Steps.Walking.{ShownRecord, shown_of, all_shown}
use Rattle.cq_render.proofs.Pieces.{by_bool}
use Rattle.cq_render.proofs.Walked.{as_many, names_of_shown}

-- ---- what is put one after another

pub three_put : (start one two three a b c all : List ℕ) → one ≡ start ++ a → two ≡ one ++ b → three ≡ two ++ c → a ++ b ++ c ≡ all → three ≡ start ++ all
three_put start one two three a b c all p q r is =
    r ∙ ap (λ (l : List ℕ). l ++ c) (q ∙ ap (λ (l : List ℕ). l ++ b) p ∙ append_assoc start a b) ∙ append_assoc start (a ++ b) c ∙ ap (λ (l : List ℕ). start ++ l) is

pub four_put : (start one two three four a b c d all : List ℕ) → one ≡ start ++ a → two ≡ one ++ b → three ≡ two ++ c → four ≡ three ++ d → a ++ b ++ c ++ d ≡ all → four ≡ start ++ all
four_put start one two three four a b c d all p q r s is = s ∙ ap (λ (l : List ℕ). l ++ d) (three_put start one two three a b c (a ++ b ++ c) p q r refl) ∙ append_assoc start (a ++ b ++ c) d ∙ ap (λ (l : List ℕ). start ++ l) is

-- ---- parts

-- the lines that set a board up
pub setup_all : (form : Form) (journal : ℕ) (pool : PoolRecord)
    → command_line (Setup (Board form)) ++ flat_map (λ declared. command_line (relation_command declared)) pool.tables.catalog ++ command_line (Setup (Limits pool.limits.pool journal)) ≡ flat_map command_line (setup_commands form journal pool)
setup_all form journal pool =
    let limits : CommandContent = Setup (Limits pool.limits.pool journal) in
    let relations = flat_map command_line (map relation_command pool.tables.catalog) in
    append_assoc (command_line (Setup (Board form))) _ (command_line limits)
    ∙ ap (λ (l : List ℕ). command_line (Setup (Board form)) ++ l)
    (ap (λ (l : List ℕ). l ++ command_line limits) (sym (flat_map-map command_line relation_command pool.tables.catalog)) ∙ ap (λ (l : List ℕ). relations ++ l) (sym (append-nil (command_line limits)))
    ∙ sym (flat_map-append command_line (map relation_command pool.tables.catalog) (limits ∷ [])))

-- the lines of rows that were read
pub rows_all : {R : Type 0} (read : R → RowRecord) (items : List R) (rows : List RowRecord) → map read items ≡ rows → flat_map (λ item. command_line (insert_command (read item))) items ≡ flat_map command_line (map insert_command rows)
rows_all read items rows is =
    let f : RowRecord → List ℕ = λ row. command_line (insert_command row) in
    sym (flat_map-map f read items) ∙ ap (flat_map f) is ∙ sym (flat_map-map command_line insert_command rows)

abbrev shown_command : ShownRecord → CommandContent
shown_command shown = Edit (Post shown.name shown.query)

posted_from : (pool : PoolRecord) (n : ℕ) (pending : List PendingQuery) → flat_map (λ shown. command_line (shown_command shown)) (map (shown_of pool) (enumerate_from n pending)) ≡ flat_map command_line (map post_command pending)
posted_from pool n [] = refl
posted_from pool n (p ∷ pending) = ap (λ (l : List ℕ). command_line (post_command p) ++ l) (posted_from pool (n + 1) pending)

-- the lines of queries that were read
pub queries_all : {R : Type 0} (read : R → ShownRecord) (items : List R) (pool : PoolRecord) → map read items ≡ all_shown pool → flat_map (λ item. command_line (shown_command (read item))) items ≡ flat_map command_line (map post_command pool.pending)
queries_all read items pool walked =
    let f : ShownRecord → List ℕ = λ shown. command_line (shown_command shown) in
    sym (flat_map-map f read items) ∙ ap (flat_map f) walked ∙ posted_from pool 0 pool.pending

-- the commands of the content, rows and queries apart
content_is : (pool : PoolRecord) → map insert_command pool.tables.rows ++ (map post_command pool.pending ++ Publish ∷ []) ≡ map Edit (content_edits pool) ++ Publish ∷ []
content_is pool =
    sym (append_assoc (map insert_command pool.tables.rows) (map post_command pool.pending) (Publish ∷ []))
    ∙ ap (λ (l : List CommandContent). l ++ Publish ∷ [])
    (ap (λ (l : List CommandContent). l ++ map post_command pool.pending) (sym (map_map Edit Insert pool.tables.rows)) ∙ ap (λ (l : List CommandContent). map Edit (map Insert pool.tables.rows) ++ l) (sym (map_map Edit (λ p. Post p.name p.query) pool.pending))
    ∙ sym (map-append Edit (map Insert pool.tables.rows) (map (λ p. Post p.name p.query) pool.pending)))
  where
    map_map : {X Y Z : Type 0} (f : Y → Z) (g : X → Y) (xs : List X) → map f (map g xs) ≡ map (λ x. f (g x)) xs
    map_map f g [] = refl
    map_map f g (x ∷ xs) = ap (λ zs. f (g x) ∷ zs) (map_map f g xs)

-- the lines of rows, of queries, and of the publish are those of the content
content_all : (pool : PoolRecord) → flat_map command_line (map insert_command pool.tables.rows) ++ (flat_map command_line (map post_command pool.pending) ++ command_line Publish) ≡ flat_map command_line (map Edit (content_edits pool) ++ Publish ∷ [])
content_all pool =
    let rows = flat_map command_line (map insert_command pool.tables.rows) in
    let queries = flat_map command_line (map post_command pool.pending) in
    ap (λ (l : List ℕ). rows ++ (queries ++ l)) (sym (append-nil (command_line Publish))) ∙ ap (λ (l : List ℕ). rows ++ l) (sym (flat_map-append command_line (map post_command pool.pending) (Publish ∷ [])))
    ∙ sym (flat_map-append command_line (map insert_command pool.tables.rows) (map post_command pool.pending ++ Publish ∷ [])) ∙ ap (flat_map command_line) (content_is pool)

pub dump_all : (form : Form) (journal : ℕ) (pool : PoolRecord) (rows queries : List ℕ) → rows ≡ flat_map command_line (map insert_command pool.tables.rows) → queries ≡ flat_map command_line (map post_command pool.pending)
    → flat_map command_line (setup_commands form (dump_journal journal pool) pool) ++ rows ++ queries ++ command_line Publish ≡ dump form journal pool
dump_all form journal pool rows queries r q =
    let setup = flat_map command_line (setup_commands form (dump_journal journal pool) pool) in
    append_assoc (setup ++ rows) queries (command_line Publish) ∙ append_assoc setup rows (queries ++ command_line Publish)
    ∙ ap (λ (l : List ℕ). setup ++ l) (ap (λ (l : List ℕ). l ++ (queries ++ command_line Publish)) r ∙ ap (λ (l : List ℕ). flat_map command_line (map insert_command pool.tables.rows) ++ (l ++ command_line Publish)) q ∙ content_all pool)
    ∙ sym (flat_map-append command_line (setup_commands form (dump_journal journal pool) pool) (map Edit (content_edits pool) ++ Publish ∷ []))

-- the journal limit by what was read
pub journal_is : {R Q : Type 0} (read : R → RowRecord) (look : Q → ShownRecord) (rows : List R) (queries : List Q) (journal count limit : ℕ) (pool : PoolRecord) → map read rows ≡ pool.tables.rows → map look queries ≡ all_shown pool
    → count ≡ length rows + length queries → limit ≡ max journal count → limit ≡ dump_journal journal pool
journal_is read look rows queries journal count limit pool r q many is =
    let as_rows : length rows ≡ length pool.tables.rows = sym (length-map rows read) ∙ ap length r in
    let as_queries : length queries ≡ length pool.pending = as_many (λ item. (look item).name) queries pool.pending (names_of_shown look queries pool q) in
    is ∙ ap (max journal) (many ∙ ap (λ (n : ℕ). n + length queries) as_rows ∙ ap (λ (n : ℕ). length pool.tables.rows + n) as_queries)

-- ---- the commands are sound

both : {X : Type 0} (P : X → Type 0) (xs ys : List X) → AllByRecursion P xs → AllByRecursion P ys → AllByRecursion P (xs ++ ys)
both P [] ys p q = q
both P (x ∷ xs) ys p q = (p.0, both P xs ys p.1 q)

mapped_all : {X Y : Type 0} (P : Y → Type 0) (f : X → Y) (xs : List X) → AllByRecursion (λ x. P (f x)) xs → AllByRecursion P (map f xs)
mapped_all P f [] h = tt
mapped_all P f (x ∷ xs) h = (h.0, mapped_all P f xs h.1)

named : (relation : List ℕ) (count : ℕ) → arity_fault relation count ≡ None → IsTrue (is_relation_name relation)
named relation count e = by_bool (is_relation_name relation) (IsTrue (is_relation_name relation)) (λ t. t) (λ f. absurd (let never : Some BadName ≡ None = rw f at e in cc))

rows_sound : {R : Type 0} (read : R → RowRecord) (items : List R) (rows : List RowRecord) → map read items ≡ rows → All (λ item. IsSoundCommand (insert_command (read item))) items → AllByRecursion IsSoundCommand (map insert_command rows)
rows_sound read items rows is h =
    let P : RowRecord → Type 0 = λ row. IsSoundCommand (insert_command row) in
    mapped_all IsSoundCommand insert_command rows (subst (AllByRecursion P) is (mapped_all P read items (recursion_from_All (λ item. P (read item)) items h)))

posted_sound : (pool : PoolRecord) (n : ℕ) (pending : List PendingQuery) → AllByRecursion (λ shown. IsSoundCommand (shown_command shown)) (map (shown_of pool) (enumerate_from n pending)) → AllByRecursion IsSoundCommand (map post_command pending)
posted_sound pool n [] h = tt
posted_sound pool n (p ∷ pending) h = (h.0, posted_sound pool (n + 1) pending h.1)

queries_sound : {R : Type 0} (read : R → ShownRecord) (items : List R) (pool : PoolRecord) → map read items ≡ all_shown pool → All (λ item. IsSoundCommand (shown_command (read item))) items → AllByRecursion IsSoundCommand (map post_command pool.pending)
queries_sound read items pool walked h =
    let P : ShownRecord → Type 0 = λ shown. IsSoundCommand (shown_command shown) in
    posted_sound pool 0 pool.pending (subst (AllByRecursion P) walked (mapped_all P read items (recursion_from_All (λ item. P (read item)) items h)))

relations_sound : (catalog : List Declaration) → AllByRecursion (λ declared. arity_fault declared.relation declared.arity ≡ None) catalog → AllByRecursion IsSoundCommand (map relation_command catalog)
relations_sound [] h = tt
relations_sound (d ∷ ds) h = (named d.relation d.arity h.0, relations_sound ds h.1)

pub dump_sound : {R Q : Type 0} (read : R → RowRecord) (look : Q → ShownRecord) (rows : List R) (queries : List Q) (form : Form) (journal : ℕ) (pool : PoolRecord) → IsPool pool → map read rows ≡ pool.tables.rows → map look queries ≡ all_shown pool
    → All (λ item. IsSoundCommand (insert_command (read item))) rows → All (λ item. IsSoundCommand (shown_command (look item))) queries → All IsSoundCommand (dump_commands form journal pool)
dump_sound read look rows queries form journal pool good r q rb qb =
    let limits : CommandContent = Setup (Limits pool.limits.pool (dump_journal journal pool)) in
    let relations = relations_sound pool.tables.catalog (recursion_from_All (λ declared. arity_fault declared.relation declared.arity ≡ None) pool.tables.catalog good.tables.catalog.good) in
    All-from_recursion IsSoundCommand (dump_commands form journal pool) (both IsSoundCommand (setup_commands form (dump_journal journal pool) pool) (map Edit (content_edits pool) ++ Publish ∷ [])
    (tt, both IsSoundCommand (map relation_command pool.tables.catalog) (limits ∷ []) relations (tt, tt))
    (subst (AllByRecursion IsSoundCommand) (content_is pool) (both IsSoundCommand (map insert_command pool.tables.rows) (map post_command pool.pending ++ Publish ∷ []) (rows_sound read rows pool.tables.rows r rb)
    (both IsSoundCommand (map post_command pool.pending) (Publish ∷ []) (queries_sound look queries pool q qb) (tt, tt)))))
