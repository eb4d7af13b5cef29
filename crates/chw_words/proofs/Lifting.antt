-- Words are a command exactly if the rest of them, without flags, and the flags are one.
use Rattle.std.proofs.Common.{◌≡◌, ◌∙◌, sym, refl, ap, ap₂, true, false, List, [], ◌∷◌, Some, None, codes, subst, ◌⊎◌, inl, inr, ⊎_elim}
use Rattle.std.specs.List.{All}
use Rattle.std.specs.Str.{IsUtf8}
use Rattle.std.proofs.lemmas.List.Elements.{All-cons, All-head, All-tail}
use Rattle.std.proofs.lemmas.Option.{same_Some}
use Rattle.clap.specs.Walk.{Text}
use Rattle.chw_words.specs.Commands.{AreWithBudget, IsCommand}
use Rattle.chw_words.specs.Commands.IsCommand.{emit, simulate, check, normalise, run, make}
use Rattle.chw_words.specs.Flags.{HasFlags, IsEmitForm, IsSimForm, blif, emit_flags, lines, shared, simulate_flags, verilog, waves}
use Rattle.chw_words.specs.Splitting.{IsFormed, IsUnflagged, asked_of, emit_form, flags_of, found_from, in_form, rest_from, sim_form}
use Rattle.chw_words.specs.Splitting.IsUnflagged.{emit as plain_emit, simulate as plain_simulate, check as plain_check}
use Rattle.chw_words.specs.Splitting.IsUnflagged.{normalise as plain_normalise, run as plain_run, make as plain_make}
use Rattle.chw_words.specs.declared.command.Command.{Command}
use Rattle.chw_words.specs.declared.command.Command.TheVariants.{Emit, Simulate, Check, Normalise, Run, Make}
use Rattle.chw_words.specs.declared.command.EmitForm.{EmitForm}
use Rattle.chw_words.specs.declared.command.EmitForm.TheVariants.{Verilog, Shared, Blif}
use Rattle.chw_words.specs.declared.command.SimForm.{SimForm}
use Rattle.chw_words.specs.declared.command.SimForm.TheVariants.{Lines, Waves}
use Rattle.chw_words.specs.declared.flags.Asked.{Asked}
use Rattle.chw_words.specs.declared.flags.Asked.TheVariants as asked
use Rattle.chw_words.proofs.Exactly.{one_unflagged}
use Rattle.chw_words.proofs.Passes.{are_texts as plain_are_texts}
use Rattle.chw_words.proofs.Splitting.{all_rest, apart_once, are_apart, budget_is_no_flag, first_found, flag_text, is_one_flag, is_the_flag, word_texts}

-- ---- what the rest and the flags are, the words are

no_flags : (words rest found : List Text) → HasFlags [] words rest found → words ≡ rest
no_flags words rest found h = sym ((apart_once [] words rest found refl h).0 ∙ (all_rest false words).0)

-- where flags ask for something, there are none, or there is one alone
none_or_one : (f : Text) (words rest found : List Text) (it : Asked) → HasFlags (f ∷ []) words rest found → asked_of found ≡ Some it
    → (found ≡ []) ⊎ (found ≡ f ∷ [])
none_or_one f words rest [] it h is = inl refl
none_or_one f words rest (w ∷ []) it h is = inr (ap (λ v. v ∷ []) (is_the_flag f w (first_found (f ∷ []) words rest [] w h)))
none_or_one f words rest (w ∷ v ∷ more) it h is = let bad : None ≡ Some it = is in absurd cc

-- the same of two flags
none_or_one_of : (f g : Text) (words rest found : List Text) (it : Asked) → HasFlags (f ∷ g ∷ []) words rest found → asked_of found ≡ Some it
    → (found ≡ []) ⊎ ((found ≡ f ∷ []) ⊎ (found ≡ g ∷ []))
none_or_one_of f g words rest [] it h is = inl refl
none_or_one_of f g words rest (w ∷ []) it h is =
    inr (⊎_elim (λ same. inl (ap (λ v. v ∷ []) same)) (λ same. inr (ap (λ v. v ∷ []) same))
    (is_one_flag f g w (first_found (f ∷ g ∷ []) words rest [] w h)))
none_or_one_of f g words rest (w ∷ v ∷ more) it h is = let bad : None ≡ Some it = is in absurd cc

-- what is asked for, by the flags
asks : (found known : List Text) (it : Asked) → found ≡ known → asked_of found ≡ Some it → asked_of known ≡ Some it
asks found known it same is = ap asked_of (sym same) ∙ is

-- the form of a simulation for which its flags ask
sim_asked : (words rest found : List Text) (it : Asked) → HasFlags simulate_flags words rest found → asked_of found ≡ Some it → IsSimForm found (sim_form it)
sim_asked words rest found it h is =
    ⊎_elim
    (λ same. subst (λ fs. IsSimForm fs (sim_form it)) (sym same)
    (subst (λ a. IsSimForm [] (sim_form a)) (same_Some asked.Nothing it (asks found [] it same is)) lines))
    (λ same. subst (λ fs. IsSimForm fs (sim_form it)) (sym same)
    (subst (λ a. IsSimForm simulate_flags (sim_form a)) (same_Some asked.Waves it (asks found simulate_flags it same is)) waves))
    (none_or_one (codes "--vcd") words rest found it h is)

-- the form of a net, where these are its flags, which ask for something known
emit_from : (found known : List Text) (said it : Asked) → found ≡ known → asked_of known ≡ Some said → IsEmitForm known (emit_form said)
    → asked_of found ≡ Some it → IsEmitForm found (emit_form it)
emit_from found known said it same of_known form is =
    subst (λ fs. IsEmitForm fs (emit_form it)) (sym same)
    (subst (λ a. IsEmitForm known (emit_form a)) (same_Some said it (sym of_known ∙ asks found known it same is)) form)

-- the form of a net for which its flags ask
emit_asked : (words rest found : List Text) (it : Asked) → HasFlags emit_flags words rest found → asked_of found ≡ Some it → IsEmitForm found (emit_form it)
emit_asked words rest found it h is =
    ⊎_elim (λ same. emit_from found [] asked.Nothing it same refl verilog is)
    (λ one. ⊎_elim (λ same. emit_from found (codes "--share" ∷ []) asked.Sharing it same refl shared is)
    (λ same. emit_from found (codes "--blif" ∷ []) asked.Bits it same refl blif is) one)
    (none_or_one_of (codes "--share") (codes "--blif") words rest found it h is)

-- what the words are of which this is the rest, by its first word
abbrev Lifts : Asked → List Text → Command → Type 0
Lifts it [] c = Unit {0}
Lifts it (name ∷ rest) c =
    (words found : List Text) → HasFlags (flags_of name) words rest found → asked_of found ≡ Some it → IsCommand (name ∷ words) (in_form it c)

lifts : (it : Asked) (all : List Text) (c : Command) → IsUnflagged all c → Lifts it all c
lifts it _ _ (plain_emit rest file budget f w) =
    λ words found h is. emit words rest found file budget (emit_form it) h (emit_asked words rest found it h is) f w
lifts it _ _ (plain_simulate rest file stimulus budget f g w) =
    λ words found h is. simulate words rest found file stimulus budget (sim_form it) h (sim_asked words rest found it h is) f g w
lifts it _ _ (plain_check file f) =
    λ words found h is. subst (λ ws. IsCommand (codes "check" ∷ ws) (Check file)) (sym (no_flags words (file ∷ []) found h)) (check file f)
lifts it _ _ (plain_normalise rest file budget f w) =
    λ words found h is. normalise words file budget f (subst (λ ws. AreWithBudget ws (file ∷ []) budget) (sym (no_flags words rest found h)) w)
lifts it _ _ (plain_run f g p q) =
    λ words found h is. subst (λ ws. IsCommand (codes "run" ∷ ws) (Run f g)) (sym (no_flags words (f ∷ g ∷ []) found h)) (run f g p q)
lifts it _ _ (plain_make word taps t) =
    λ words found h is. subst (λ ws. IsCommand (codes "make" ∷ ws) (Make taps)) (sym (no_flags words (word ∷ []) found h)) (make word taps t)

-- the rest and the flags of the words behind a command's
abbrev pub Apart : (List Text → List Text → Command → Type 0) → Text → List Text → Command → Type 0
Apart P name words c = P (name ∷ rest_from (flags_of name) false words) (found_from (flags_of name) false words) c

pub lifted : (name : Text) (words : List Text) (c : Command) → Apart IsFormed name words c → IsCommand (name ∷ words) c
lifted name words c f =
    let rest = rest_from (flags_of name) false words in
    let found = found_from (flags_of name) false words in
    subst (IsCommand (name ∷ words)) (sym f.command_is)
    (lifts f.it (name ∷ rest) f.plain f.is_plain words found (are_apart (flags_of name) words) f.is_asked)

-- ---- and what the words are, they are

-- so they are, by the first word
abbrev Lowers : List Text → Command → Type 0
Lowers [] c = ⊥
Lowers (name ∷ words) c = Apart IsFormed name words c

-- a command without flags
unformed : (name : Text) (words : List Text) (c plain : Command) → flags_of name ≡ [] → IsUnflagged (name ∷ words) plain → c ≡ in_form asked.Nothing plain → Apart IsFormed name words c
unformed name words c plain flagless is same =
    let all = all_rest false words in
    subst (λ flags. IsFormed (name ∷ rest_from flags false words) (found_from flags false words) c) (sym flagless)
    (record {
      it = asked.Nothing;
      is_asked = ap asked_of all.1;
      plain = plain;
      is_plain = subst (λ rest. IsUnflagged (name ∷ rest) plain) (sym all.0) is;
      command_is = same;
    })

-- what is asked for, by the form
asked_sim : SimForm → Asked
asked_sim Lines = asked.Nothing
asked_sim Waves = asked.Waves

sim_is_asked : (found : List Text) (form : SimForm) → IsSimForm found form → (asked_of found ≡ Some (asked_sim form)) × (form ≡ sim_form (asked_sim form))
unfolding asked_sim
sim_is_asked _ _ lines = (refl, refl)
sim_is_asked _ _ waves = (refl, refl)

asked_emit : EmitForm → Asked
asked_emit Verilog = asked.Nothing
asked_emit Shared = asked.Sharing
asked_emit Blif = asked.Bits

emit_is_asked : (found : List Text) (form : EmitForm) → IsEmitForm found form
    → (asked_of found ≡ Some (asked_emit form)) × (form ≡ emit_form (asked_emit form))
unfolding asked_emit
emit_is_asked _ _ verilog = (refl, refl)
emit_is_asked _ _ shared = (refl, refl)
emit_is_asked _ _ blif = (refl, refl)

lowers : (all : List Text) (c : Command) → IsCommand all c → Lowers all c
lowers _ _ (emit words rest found file budget form h is f w) =
    let once = apart_once emit_flags words rest found (budget_is_no_flag (codes "emit")) h in
    let asked_for = emit_is_asked found form is in
    record {
      it = asked_emit form;
      is_asked = ap asked_of (sym once.1) ∙ asked_for.0;
      plain = Emit file budget Verilog;
      is_plain = subst (λ it. IsUnflagged (codes "emit" ∷ it) (Emit file budget Verilog)) once.0 (plain_emit rest file budget f w);
      command_is = ap (λ it. Emit file budget it) asked_for.1;
    }
lowers _ _ (simulate words rest found file stimulus budget form h is f g w) =
    let once = apart_once simulate_flags words rest found (budget_is_no_flag (codes "simulate")) h in
    let asked_for = sim_is_asked found form is in
    record {
      it = asked_sim form;
      is_asked = ap asked_of (sym once.1) ∙ asked_for.0;
      plain = Simulate file stimulus budget Lines;
      is_plain = subst (λ it. IsUnflagged (codes "simulate" ∷ it) (Simulate file stimulus budget Lines)) once.0 (plain_simulate rest file stimulus budget f g w);
      command_is = ap (λ it. Simulate file stimulus budget it) asked_for.1;
    }
lowers _ _ (check file f) = unformed (codes "check") (file ∷ []) (Check file) (Check file) refl (plain_check file f) refl
lowers _ _ (normalise words file budget f w) =
    unformed (codes "normalise") words (Normalise file budget) (Normalise file budget) refl (plain_normalise words file budget f w) refl
lowers _ _ (run f g p q) = unformed (codes "run") (f ∷ g ∷ []) (Run f g) (Run f g) refl (plain_run f g p q) refl
lowers _ _ (make word taps t) = unformed (codes "make") (word ∷ []) (Make taps) (Make taps) refl (plain_make word taps t) refl

pub lowered : (name : Text) (words : List Text) (c : Command) → IsCommand (name ∷ words) c → Apart IsFormed name words c
lowered name words c is = lowers (name ∷ words) c is

-- no words are no command
pub none_is_no_command : (c : Command) → IsCommand [] c → ⊥
none_is_no_command c is = lowers [] c is

-- ---- they are one

formed_once : (rest found : List Text) (a b : Command) → IsFormed rest found a → IsFormed rest found b → a ≡ b
formed_once rest found a b x y =
    x.command_is
    ∙ ap₂ (λ f c. in_form f c) (same_Some x.it y.it (sym x.is_asked ∙ y.is_asked)) (one_unflagged rest x.plain y.plain x.is_plain y.is_plain)
    ∙ sym y.command_is

pub one_command : (words : List Text) (a b : Command) → IsCommand words a → IsCommand words b → a ≡ b
one_command [] a b x y = absurd (none_is_no_command a x)
one_command (name ∷ words) a b x y =
    formed_once (name ∷ rest_from (flags_of name) false words) (found_from (flags_of name) false words) a b (lowered name words a x) (lowered name words b y)

-- ---- they are texts

pub are_texts : (words : List Text) (c : Command) → IsCommand words c → All IsUtf8 words
are_texts [] c is = absurd (none_is_no_command c is)
are_texts (name ∷ words) c is =
    let f = lowered name words c is in
    let rest = rest_from (flags_of name) false words in
    let t = plain_are_texts (name ∷ rest) f.plain f.is_plain in
    All-cons IsUtf8 name words (All-head IsUtf8 name rest t) (word_texts (flags_of name) (flag_text name) false words (All-tail IsUtf8 name rest t))
