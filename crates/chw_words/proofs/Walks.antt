-- How `clap` walks over the words of a command.
use Rattle.std.proofs.Common.{◌≡◌, ◌∙◌, sym, refl, ap, ℕ, false, ◌&&◌, List, [], ◌∷◌, ◌++◌, Some, None, fold, append_assoc, append-nil}
use Rattle.std.specs.Prelude.{if◌then◌else◌}
use Rattle.std.specs.Option.{option_map_or, option_and_then}
use Rattle.std.specs.Str.{bytes_eq}
use Rattle.clap.specs.Lexer.{long_of, long_of_rest, short_of, short_of_rest, strip_byte}
use Rattle.clap.specs.Walk.{Held, Names, Rule, Step, Text, Waiting, Walk, idle, option, trailing, value, walked, word_met, subcommand_met, subcommand_or_other, long_or_other, short_or_plain, plain_word, after_step, to_positional, arg_by_index, arg_by_id, option_word, finished, settled}
use Rattle.clap.specs.Simple.{Shape}
use Rattle.clap.specs.Faults.{turn_fault, step_fault, walk_fault, word_fault, other_fault, flag_word_fault, bundle_fault, settle_fault, defaults_fault, check_fault}
use Rattle.clap.specs.Kinds.{Kinds, or_else}
use Rattle.clap.proofs.FaultLemmas.{past}
use Rattle.chw_words.specs.Commands.{is_option}

-- a walk between two words, before `--` and in no subcommand
abbrev pub at : Held → Waiting → ℕ → Walk
at h waiting position = record { held = h; waiting = waiting; position = position; is_trailing = false; stopped = None }

-- a word that doesn't begin with `-` is no flag
pub no_double : (word : Text) → is_option word ≡ false → bytes_eq word (45 ∷ 45 ∷ []) ≡ false
no_double [] e = refl
no_double (x ∷ xs) e = ap (λ b. b && bytes_eq xs (45 ∷ [])) e

no_minus : (word : Text) → is_option word ≡ false → strip_byte 45 word ≡ None
no_minus [] e = refl
no_minus (x ∷ xs) e = ap (λ b. if b then Some xs else None) e

pub no_long : (word : Text) → is_option word ≡ false → long_of word ≡ None
no_long word e = ap (λ o. option_and_then long_of_rest (option_and_then (strip_byte 45) o)) (no_minus word e)

pub no_short : (word : Text) → is_option word ≡ false → short_of word ≡ None
no_short word e = ap (λ o. option_and_then short_of_rest o) (no_minus word e)

plain_met_other : (c : List Rule) (waiting : Waiting) (p : ℕ) (word : Text) (h : Held) → is_option word ≡ false
    → subcommand_or_other c None waiting p word h ≡ plain_word c waiting word h
plain_met_other c waiting p word h e =
    ap (λ b. if b then (h, trailing p) else long_or_other c waiting word (long_of word) h) (no_double word e)
    ∙ ap (λ o. long_or_other c waiting word o h) (no_long word e)
    ∙ ap (λ o. short_or_plain c waiting word o h) (no_short word e)

-- what such a word is where nothing waits, and it names no subcommand
pub plain_met : (c : List Rule) (names : Names) (p : ℕ) (word : Text) (h : Held) → is_option word ≡ false → subcommand_met names idle word ≡ None
    → word_met c names false idle p word h ≡ (h, value)
plain_met c names p word h e m =
    ap (λ o. subcommand_or_other c o idle p word h) m ∙ plain_met_other c idle p word h e

-- where nothing waits, such a word goes to the next positional
pub plain_walked : (c : List Rule) (h : Held) (p : ℕ) (word : Text) → is_option word ≡ false
    → walked c [] (at h idle p) word ≡ to_positional c (arg_by_index c p) word (at h idle p) h
unfolding walked
plain_walked c h p word e =
    ap (λ (met : Held × Step). after_step c word (at h idle p) met.0 met.1) (plain_met_other c idle p word h e)

-- where an option waits, it is the option's value
pub value_walked : (c : List Rule) (h : Held) (id : Text) (p : ℕ) (word : Text) → is_option word ≡ false
    → walked c [] (at h (option id) p) word ≡ at (option_word (arg_by_id c id) id word h).0 (option_word (arg_by_id c id) id word h).1 p
unfolding walked
value_walked c h id p word e =
    ap (λ (met : Held × Step). after_step c word (at h (option id) p) met.0 met.1) (plain_met_other c (option id) p word h e)

no_word_fault : (s : Shape) (word : Text) (h : Held) → is_option word ≡ false → other_fault s None word h ≡ []
no_word_fault s word h e =
    ap (λ b. if b then [] else flag_word_fault s.rules s.args_override_self (long_of word) word h) (no_double word e)
    ∙ ap (λ o. flag_word_fault s.rules s.args_override_self o word h) (no_long word e)
    ∙ ap (λ o. option_map_or (λ flags. bundle_fault s.rules s.args_override_self flags h) o []) (no_short word e)

-- such a word fails only where no positional takes it
pub plain_turn : (s : Shape) (names : Names) (h : Held) (p : ℕ) (word : Text) → is_option word ≡ false → subcommand_met names idle word ≡ None
    → turn_fault s names (at h idle p) word ≡ step_fault s p h value
plain_turn s names h p word e m =
    ap (λ (met : Held × Step). or_else (word_fault s names false idle word h) (step_fault s p met.0 met.1)) (plain_met s.rules names p word h e m)
    ∙ ap (λ o. or_else (other_fault s o word h) (step_fault s p h value)) m
    ∙ past (other_fault s None word h) (step_fault s p h value) (no_word_fault s word h e)

-- as a value it doesn't fail
pub value_turn : (s : Shape) (h : Held) (id : Text) (p : ℕ) (word : Text) → is_option word ≡ false → turn_fault s [] (at h (option id) p) word ≡ []
value_turn s h id p word e =
    ap (λ (met : Held × Step). or_else (word_fault s [] false (option id) word h) (step_fault s p met.0 met.1)) (plain_met_other s.rules (option id) p word h e)
    ∙ past (other_fault s None word h) [] (no_word_fault s word h e)

-- ---- a walk over more words

-- the faults after a walk at one level
abbrev pub end_fault : Shape → Held → Kinds
end_fault s h =
    or_else (settle_fault s.rules s.args_override_self h) (or_else (defaults_fault (settled s.rules h).rows s.rules) (check_fault s (finished s.rules h) false))

-- the faults from a place in the walk on
abbrev pub rest_fault : Shape → Walk → List Text → Kinds
rest_fault s w words = or_else (walk_fault s [] w words) (end_fault s (fold (walked s.rules []) w words).held)

-- the word takes the walk from one place to the next, without a fault
pub record Goes (s : Shape) (w : Walk) (word : Text) (w' : Walk) : Type 0 where
  pub quiet : turn_fault s [] w word ≡ []
  pub to : walked s.rules [] w word ≡ w'

or_else_assoc : (a b c : Kinds) → or_else (or_else a b) c ≡ or_else a (or_else b c)
or_else_assoc [] b c = refl
or_else_assoc (k ∷ ks) b c = refl

pub or_else_none : (a : Kinds) → or_else a [] ≡ a
or_else_none [] = refl
or_else_none (k ∷ ks) = refl

rest_next : (s : Shape) (w : Walk) (word : Text) (words : List Text)
    → rest_fault s w (word ∷ words) ≡ or_else (turn_fault s [] w word) (rest_fault s (walked s.rules [] w word) words)
unfolding walk_fault
rest_next s w word words =
    or_else_assoc (turn_fault s [] w word) (walk_fault s [] (walked s.rules [] w word) words)
    (end_fault s (fold (walked s.rules []) (walked s.rules [] w word) words).held)

-- past a word without a fault
pub rest_goes : (s : Shape) (w w' : Walk) (word : Text) (words : List Text) → Goes s w word w' → rest_fault s w (word ∷ words) ≡ rest_fault s w' words
rest_goes s w w' word words g =
    rest_next s w word words ∙ past (turn_fault s [] w word) (rest_fault s (walked s.rules [] w word) words) g.quiet
    ∙ ap (λ v. rest_fault s v words) g.to

pub fold_goes : (s : Shape) (w w' : Walk) (word : Text) (words : List Text) → Goes s w word w'
    → fold (walked s.rules []) w (word ∷ words) ≡ fold (walked s.rules []) w' words
fold_goes s w w' word words g = ap (λ v. fold (walked s.rules []) v words) g.to

-- the same, of what is left
pub goes_back : (s : Shape) (w w' : Walk) (word : Text) (words : List Text) → Goes s w word w' → rest_fault s w (word ∷ words) ≡ [] → rest_fault s w' words ≡ []
goes_back s w w' word words g e = sym (rest_goes s w w' word words g) ∙ e

-- the words take the walk from one place to another, without a fault on the way
pub record Leads (s : Shape) (w : Walk) (words : List Text) (end : Walk) : Type 0 where
  pub faults : rest_fault s w words ≡ rest_fault s end []
  pub to : fold (walked s.rules []) w words ≡ end

pub there : {s : Shape} {end : Walk} → Leads s end [] end
there = record { faults = refl; to = refl }

pub first : {s : Shape} {w w' end : Walk} {word : Text} {words : List Text} → Goes s w word w' → Leads s w' words end → Leads s w (word ∷ words) end
first {s} {w} {w'} {end} {word} {words} g l = record {
  faults = rest_goes s w w' word words g ∙ l.faults;
  to = fold_goes s w w' word words g ∙ l.to;
}

-- a word that doesn't begin with `-` goes to the next positional
pub plain_goes : (s : Shape) (h : Held) (p : ℕ) (word : Text) (w : Walk) → is_option word ≡ false → step_fault s p h value ≡ []
    → to_positional s.rules (arg_by_index s.rules p) word (at h idle p) h ≡ w → Goes s (at h idle p) word w
plain_goes s h p word w e quiet to =
    record { quiet = plain_turn s [] h p word e refl ∙ quiet; to = plain_walked s.rules h p word e ∙ to }

-- where an option waits, it goes there
pub value_goes : (s : Shape) (h : Held) (id : Text) (p : ℕ) (word : Text) (w : Walk) → is_option word ≡ false
    → at (option_word (arg_by_id s.rules id) id word h).0 (option_word (arg_by_id s.rules id) id word h).1 p ≡ w → Goes s (at h (option id) p) word w
value_goes s h id p word w e to = record { quiet = value_turn s h id p word e; to = value_walked s.rules h id p word e ∙ to }

-- there is a fault
abbrev pub Fails : Kinds → Type 0
Fails [] = ⊥
Fails (k ∷ ks) = Unit {0}

pub fails_not : (ks : Kinds) → Fails ks → ks ≡ [] → ⊥
fails_not [] f e = f
fails_not (k ∷ ks) f e = cc

pub fails_first : (a b : Kinds) → Fails a → Fails (or_else a b)
fails_first [] b f = absurd f
fails_first (k ∷ ks) b f = tt

-- at a word with a fault
pub rest_stops : (s : Shape) (w : Walk) (word : Text) (words : List Text) → Fails (turn_fault s [] w word) → rest_fault s w (word ∷ words) ≡ [] → ⊥
rest_stops s w word words f e =
    fails_not _ (fails_first _ (rest_fault s (walked s.rules [] w word) words) f) (sym (rest_next s w word words) ∙ e)

-- ---- a subcommand that was met

-- the words after it are kept
pub stopped_walk : (c : List Rule) (names : Names) (w : Walk) (name : Text) (so_far words : List Text)
    → fold (walked c names) (record w { stopped = Some (name, so_far) }) words ≡ record w { stopped = Some (name, so_far ++ words) }
unfolding walked
stopped_walk c names w name so_far [] = ap (λ ws. record w { stopped = Some (name, ws) }) (sym (append-nil so_far))
stopped_walk c names w name so_far (x ∷ xs) =
    stopped_walk c names w name (so_far ++ x ∷ []) xs ∙ ap (λ ws. record w { stopped = Some (name, ws) }) (append_assoc so_far (x ∷ []) xs)
