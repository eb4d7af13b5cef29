-- The words that `clap` reads begin with a command, and what it makes of those after it.
use Rattle.std.proofs.Common.{◌≡◌, ◌∙◌, sym, refl, ap, false, ◌||◌, List, [], ◌∷◌, Some, None, codes, inl, inr, ◌⊎◌, is_some, ⊎_elim}
use Rattle.std.specs.Prelude.{find, map, option_map, if◌then◌else◌}
use Rattle.std.specs.Str.{bytes_eq}
use Rattle.std.proofs.lemmas.Slice.Eq.{bytes_eq-Decides}
use Rattle.clap.specs.Walk.{Names, Text, Walk, answers_to, finished, nothing_held, rows_after, settled, walk, walk_from, walked}
use Rattle.clap.specs.Simple.{Shape, built, entered, names_of, subcommand_of}
use Rattle.clap.specs.Faults.{check_fault as check_faults, defaults_fault, entered_fault, fault_of, settle_fault, turn_fault, walk_fault}
use Rattle.clap.specs.Kinds.{Kinds, or_else}
use Rattle.clap.proofs.FaultLemmas.{stopped_fault}
use Rattle.chw_words.specs.Parsing.{chw_app}
use Rattle.chw_words.proofs.Walks.{Fails, fails_first, fails_not, or_else_none, plain_turn, rest_fault, stopped_walk}
use Rattle.chw_words.proofs.Shapes.{Form, IsBudgetWord, IsPlain, at_option, check_shape, emit_shape, make_shape, run_shape, simulate_shape, start}
use Rattle.chw_words.proofs.Forms.{is_or_not}

abbrev top : Shape
top = (built chw_app).top

abbrev names : Names
names = names_of (built chw_app)

-- the walk that met this command
abbrev met : Text → List Text → Walk
met name words = record (walk_from nothing_held) { stopped = Some (name, words) }

-- the faults, by those of the walk and by where it ends
abbrev faults : Kinds → Walk → Kinds
faults walking end =
    or_else walking
    (or_else (entered_fault (built chw_app) end.stopped)
    (or_else (settle_fault top.rules top.args_override_self end.held)
    (or_else (defaults_fault (settled top.rules end.held).rows top.rules)
    (check_faults top (finished top.rules end.held) (is_some (entered (built chw_app) end.stopped))))))

-- after `emit` the faults and the rows are those of the words after it
emit_walk : (words : List Text) → walk top.rules names nothing_held (codes "emit" ∷ words) ≡ met (codes "emit") words
unfolding walked
emit_walk words = stopped_walk top.rules names (walk_from nothing_held) (codes "emit") [] words

pub emit_fault : (words : List Text) → fault_of chw_app (codes "emit" ∷ words) ≡ rest_fault emit_shape start words
unfolding walk_fault defaults_fault walked
emit_fault words =
    ap (λ end. faults (walk_fault top names (walk_from nothing_held) (codes "emit" ∷ words)) end) (emit_walk words)
    ∙ ap (λ ks. faults ks (met (codes "emit") words)) (stopped_fault top names (walk_from nothing_held) (codes "emit", []) words)
    ∙ or_else_none (rest_fault emit_shape start words)

pub emit_matched : (words : List Text) → subcommand_of chw_app (codes "emit" ∷ words) ≡ Some (codes "emit", rows_after emit_shape.rules [] words)
emit_matched words = ap (λ (end : Walk). entered (built chw_app) end.stopped) (emit_walk words)

-- and after `simulate`
simulate_walk : (words : List Text) → walk top.rules names nothing_held (codes "simulate" ∷ words) ≡ met (codes "simulate") words
unfolding walked
simulate_walk words = stopped_walk top.rules names (walk_from nothing_held) (codes "simulate") [] words

pub simulate_fault : (words : List Text) → fault_of chw_app (codes "simulate" ∷ words) ≡ rest_fault simulate_shape start words
unfolding walk_fault defaults_fault walked
simulate_fault words =
    ap (λ end. faults (walk_fault top names (walk_from nothing_held) (codes "simulate" ∷ words)) end) (simulate_walk words)
    ∙ ap (λ ks. faults ks (met (codes "simulate") words)) (stopped_fault top names (walk_from nothing_held) (codes "simulate", []) words)
    ∙ or_else_none (rest_fault simulate_shape start words)

pub simulate_matched : (words : List Text) → subcommand_of chw_app (codes "simulate" ∷ words) ≡ Some (codes "simulate", rows_after simulate_shape.rules [] words)
simulate_matched words = ap (λ (end : Walk). entered (built chw_app) end.stopped) (simulate_walk words)

-- and after `check`
check_walk : (words : List Text) → walk top.rules names nothing_held (codes "check" ∷ words) ≡ met (codes "check") words
unfolding walked
check_walk words = stopped_walk top.rules names (walk_from nothing_held) (codes "check") [] words

pub check_fault : (words : List Text) → fault_of chw_app (codes "check" ∷ words) ≡ rest_fault check_shape start words
unfolding walk_fault defaults_fault walked
check_fault words =
    ap (λ end. faults (walk_fault top names (walk_from nothing_held) (codes "check" ∷ words)) end) (check_walk words)
    ∙ ap (λ ks. faults ks (met (codes "check") words)) (stopped_fault top names (walk_from nothing_held) (codes "check", []) words)
    ∙ or_else_none (rest_fault check_shape start words)

pub check_matched : (words : List Text) → subcommand_of chw_app (codes "check" ∷ words) ≡ Some (codes "check", rows_after check_shape.rules [] words)
check_matched words = ap (λ (end : Walk). entered (built chw_app) end.stopped) (check_walk words)

-- and after `normalise`, which is read as `emit` is
normalise_walk : (words : List Text) → walk top.rules names nothing_held (codes "normalise" ∷ words) ≡ met (codes "normalise") words
unfolding walked
normalise_walk words = stopped_walk top.rules names (walk_from nothing_held) (codes "normalise") [] words

pub normalise_fault : (words : List Text) → fault_of chw_app (codes "normalise" ∷ words) ≡ rest_fault emit_shape start words
unfolding walk_fault defaults_fault walked
normalise_fault words =
    ap (λ end. faults (walk_fault top names (walk_from nothing_held) (codes "normalise" ∷ words)) end) (normalise_walk words)
    ∙ ap (λ ks. faults ks (met (codes "normalise") words)) (stopped_fault top names (walk_from nothing_held) (codes "normalise", []) words)
    ∙ or_else_none (rest_fault emit_shape start words)

pub normalise_matched : (words : List Text) → subcommand_of chw_app (codes "normalise" ∷ words) ≡ Some (codes "normalise", rows_after emit_shape.rules [] words)
normalise_matched words = ap (λ (end : Walk). entered (built chw_app) end.stopped) (normalise_walk words)

-- and after `run`
run_walk : (words : List Text) → walk top.rules names nothing_held (codes "run" ∷ words) ≡ met (codes "run") words
unfolding walked
run_walk words = stopped_walk top.rules names (walk_from nothing_held) (codes "run") [] words

pub run_fault : (words : List Text) → fault_of chw_app (codes "run" ∷ words) ≡ rest_fault run_shape start words
unfolding walk_fault defaults_fault walked
run_fault words =
    ap (λ end. faults (walk_fault top names (walk_from nothing_held) (codes "run" ∷ words)) end) (run_walk words)
    ∙ ap (λ ks. faults ks (met (codes "run") words)) (stopped_fault top names (walk_from nothing_held) (codes "run", []) words)
    ∙ or_else_none (rest_fault run_shape start words)

pub run_matched : (words : List Text) → subcommand_of chw_app (codes "run" ∷ words) ≡ Some (codes "run", rows_after run_shape.rules [] words)
run_matched words = ap (λ (end : Walk). entered (built chw_app) end.stopped) (run_walk words)

-- and after `make`
make_walk : (words : List Text) → walk top.rules names nothing_held (codes "make" ∷ words) ≡ met (codes "make") words
unfolding walked
make_walk words = stopped_walk top.rules names (walk_from nothing_held) (codes "make") [] words

pub make_fault : (words : List Text) → fault_of chw_app (codes "make" ∷ words) ≡ rest_fault make_shape start words
unfolding walk_fault defaults_fault walked
make_fault words =
    ap (λ end. faults (walk_fault top names (walk_from nothing_held) (codes "make" ∷ words)) end) (make_walk words)
    ∙ ap (λ ks. faults ks (met (codes "make") words)) (stopped_fault top names (walk_from nothing_held) (codes "make", []) words)
    ∙ or_else_none (rest_fault make_shape start words)

pub make_matched : (words : List Text) → subcommand_of chw_app (codes "make" ∷ words) ≡ Some (codes "make", rows_after make_shape.rules [] words)
make_matched words = ap (λ (end : Walk). entered (built chw_app) end.stopped) (make_walk words)

-- ---- any other first word is refused

-- the words fail where the first does
first_fails : (word : Text) (words : List Text) → Fails (turn_fault top names start word) → fault_of chw_app (word ∷ words) ≡ [] → ⊥
unfolding walk_fault
first_fails word words f e =
    fails_not _ (fails_first _ _ (fails_first (turn_fault top names start word) (walk_fault top names (walked top.rules names start word) words) f)) e

-- the words with which the commands begin
abbrev pub command_words : List Text
command_words = codes "emit" ∷ codes "simulate" ∷ codes "check" ∷ codes "normalise" ∷ codes "run" ∷ codes "make" ∷ []

-- the word is one of these
abbrev pub IsOneOf : List Text → Text → Type 0
IsOneOf [] word = ⊥
IsOneOf (x ∷ xs) word = (word ≡ x) ⊎ IsOneOf xs word

-- a name without aliases
abbrev bare : Text → Text × List Text
bare name = (name, [])

one_or_none : (xs : List Text) (word : Text) → IsOneOf xs word ⊎ (find (answers_to word) (map bare xs) ≡ None)
one_or_none [] word = inr refl
one_or_none (x ∷ xs) word =
    ⊎_elim (λ is. inl (inl (sym ((bytes_eq-Decides x word).0 is))))
    (λ is_not. ⊎_elim (λ later. inl (inr later))
    (λ none. inr (ap (λ b. if b || false then Some (bare x) else find (answers_to word) (map bare xs)) is_not ∙ none)) (one_or_none xs word))
    (is_or_not (bytes_eq x word))

plain_first : (word : Text) (words : List Text) → IsPlain word → fault_of chw_app (word ∷ words) ≡ [] → IsOneOf command_words word
plain_first word words p e =
    ⊎_elim (λ is. is)
    (λ none.
    let t = plain_turn top names nothing_held 1 word p (ap (option_map (λ (s : Text × List Text). s.0)) none) in
    absurd (first_fails word words (rw t tt) e))
    (one_or_none command_words word)

option_first : (word : Text) (words : List Text) → IsBudgetWord word → fault_of chw_app (word ∷ words) ≡ [] → ⊥
option_first word words is = first_fails word words (at_option (λ w. Fails (turn_fault top names start w)) word is tt (λ v. tt))

pub none_fails : fault_of chw_app [] ≡ [] → ⊥
unfolding walk_fault defaults_fault
none_fails e = fails_not (fault_of chw_app []) tt e

-- words of the form that are read begin with a command
pub begins : (word : Text) (words : List Text) → Form (word ∷ words) → fault_of chw_app (word ∷ words) ≡ [] → IsOneOf command_words word × Form words
begins word words (inl h) e = (plain_first word words h.0 e, h.1)
begins word words (inr h) e = absurd (option_first word words h.0 e)
