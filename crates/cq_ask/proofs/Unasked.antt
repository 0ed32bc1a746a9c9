-- Questions of names stay what they are, or do not fit.
use Rattle.std.proofs.Common.{◌≡◌, ℕ, Bool, true, false, List, [], ◌∷◌, length, Option, Some, None, Result, Ok, Err, OnErr, refl}
use Rattle.std.specs.Prelude.{◌≢◌, ◌&&◌, ◌==◌}
use Rattle.std.specs.List.{list_all}
use Rattle.cq_atom.specs.Text.{is_name}
use Rattle.cq_ask.specs.declared.ask.AskKind.{AskKind}
use Rattle.cq_ask.specs.declared.ask.AskKind.TheVariants.{Count, Status, Query, Explain, Near, Choice, Choose, Groups, Changes, Graph, Json, Dump, Find, Checkpoint, Help, Quit, Unfit}
use Rattle.cq_ask.specs.Ask.{takes, takes_no_names, words_of, post_of, asked_of_names, near_asked, asked_of_post, asked_of_body, asked_of}

pub by_bool : (b : Bool) (P : Type 0) → (b ≡ true → P) → (b ≡ false → P) → P
by_bool true P t f = t refl
by_bool false P t f = f refl

pub on_err : {T E : Type 0} (r : Result T E) {P : Type 0} → P → OnErr r P
on_err (Ok x) p = tt
on_err (Err e) p = p

stay : (kind : AskKind) (words : List (List ℕ)) → takes_no_names kind ≡ false → takes_no_names (asked_of_names kind words).kind ≡ false
stay kind words off = by_bool (takes kind (length words) && list_all is_name words) _ (λ t. rw t off) (λ f. rw f refl)

near_stays : (post : Option ℕ) (name : List ℕ) → takes_no_names (near_asked post name).kind ≡ false
near_stays None name = refl
near_stays (Some post) name = stay (Near post) (name ∷ []) refl

post_stays : (words : List (List ℕ)) → takes_no_names (asked_of_post words).kind ≡ false
post_stays [] = refl
post_stays (name ∷ []) = refl
post_stays (name ∷ post ∷ []) = near_stays (post_of post) name
post_stays (name ∷ post ∷ more ∷ words) = refl

body_stays : (place : ℕ) (text : List ℕ) → takes_no_names (asked_of_body place text).kind ≡ false
body_stays place text = by_bool (length (words_of text) == 0) _ (λ t. rw t refl) (λ f. rw f refl)

pub names_stay : (kind : AskKind) (place : ℕ) (text : List ℕ) → takes_no_names kind ≡ false → takes_no_names (asked_of kind place text).kind ≡ false
names_stay Count place text off = stay Count (words_of text) off
names_stay Status place text off = stay Status (words_of text) off
names_stay Query place text off = stay Query (words_of text) off
names_stay Explain place text off = stay Explain (words_of text) off
names_stay (Near post) place text off = post_stays (words_of text)
names_stay Choice place text off = refl
names_stay Choose place text off = stay Choose (words_of text) off
names_stay Groups place text off = stay Groups (words_of text) off
names_stay Changes place text off = stay Changes (words_of text) off
names_stay Graph place text off = stay Graph (words_of text) off
names_stay Json place text off = stay Json (words_of text) off
names_stay Dump place text off = stay Dump (words_of text) off
names_stay (Find at) place text off = body_stays place text
names_stay Checkpoint place text off = stay Checkpoint (words_of text) off
names_stay Help place text off = stay Help (words_of text) off
names_stay Quit place text off = stay Quit (words_of text) off
names_stay Unfit place text off = stay Unfit (words_of text) off

-- what is asked of names, by a word of any kind but three
pub asked_as_names : (kind : AskKind) (place : ℕ) (text : List ℕ) → ((post : ℕ) → kind ≢ Near post) → kind ≢ Choice → ((at : ℕ) → kind ≢ Find at) → asked_of_names kind (words_of text) ≡ asked_of kind place text
asked_as_names (Near post) place text no_near no_choice no_find = absurd (no_near post refl)
asked_as_names Choice place text no_near no_choice no_find = absurd (no_choice refl)
asked_as_names (Find at) place text no_near no_choice no_find = absurd (no_find at refl)
asked_as_names Count place text no_near no_choice no_find = refl
asked_as_names Status place text no_near no_choice no_find = refl
asked_as_names Query place text no_near no_choice no_find = refl
asked_as_names Explain place text no_near no_choice no_find = refl
asked_as_names Choose place text no_near no_choice no_find = refl
asked_as_names Groups place text no_near no_choice no_find = refl
asked_as_names Changes place text no_near no_choice no_find = refl
asked_as_names Graph place text no_near no_choice no_find = refl
asked_as_names Json place text no_near no_choice no_find = refl
asked_as_names Dump place text no_near no_choice no_find = refl
asked_as_names Checkpoint place text no_near no_choice no_find = refl
asked_as_names Help place text no_near no_choice no_find = refl
asked_as_names Quit place text no_near no_choice no_find = refl
asked_as_names Unfit place text no_near no_choice no_find = refl
