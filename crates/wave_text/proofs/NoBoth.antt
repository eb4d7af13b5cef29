-- A source that keeps all rules breaks none.
use Rattle.std.proofs.Common.{◌≡◌, ℕ, ◌+◌, Bool, true, false, cond, List, [], ◌∷◌, ◌++◌, Some, inl, inr, refl, sym, ap, ◌∙◌, subst, append_assoc}
use Rattle.std.specs.List.{AllByRecursion}
use Rattle.std.specs.Option.{is_some, option_map}
use Rattle.std.specs.Str.{bytes_eq}
use Rattle.std.proofs.lemmas.Bool.{false≢true}
use Rattle.std.proofs.lemmas.List.{map-append}
use Rattle.std.proofs.lemmas.Slice.Eq.{bytes_eq-Decides}
use Rattle.name_tables.specs.Names.{AreDistinct, is_among, place_of}
use Rattle.wave_text.specs.Faults.{FailsAt, HasSource, IsBackAt, IsFirstWithout, IsSourceFault, IsTwiceAt, IsVcdFault}
use Rattle.wave_text.specs.VcdText.{Changed, Declared, HasWidth, IsKnown, IsRight, Moment, Rise, Source, VcdText, all_changes, codes_of, wave_of}
use Rattle.wave_text.specs.Words.{Word, words_of}
use Rattle.wave_text.specs.declared.fault.VcdCode.{VcdCode}
use Rattle.wave_text.specs.declared.fault.VcdCode.TheVariants.{X01, X02, X03, X04}
use Rattle.wave_text.specs.declared.fault.VcdFault.{VcdFault}
use Rattle.wave_text.specs.declared.wave.Wave.{Wave}
use Rattle.wave_text.proofs.Distinct.{same_some}
use Rattle.wave_text.proofs.OneSource.{one_source}

-- a name is among names in which it stands
among_at : (xs : List (List ℕ)) (x : List ℕ) (ys : List (List ℕ)) → is_among (xs ++ x ∷ ys) x ≡ true
among_at [] x ys = ap (λ b. is_some (cond b (Some 0) (option_map (λ (place : ℕ). place + 1) (place_of ys x)))) ((bytes_eq-Decides x x).1 refl)
among_at (z ∷ zs) x ys = at (bytes_eq x z) (among_at zs x ys)
  where
    at : (b : Bool) → is_among (zs ++ x ∷ ys) x ≡ true → is_some (cond b (Some 0) (option_map (λ (place : ℕ). place + 1) (place_of (zs ++ x ∷ ys) x))) ≡ true
    at true later = refl
    at false later = same_some (place_of (zs ++ x ∷ ys) x) ∙ later

-- a name that stands again behind itself
not_distinct : (xs : List (List ℕ)) (x : List ℕ) (ys : List (List ℕ)) → is_among xs x ≡ true → AreDistinct (xs ++ x ∷ ys) → ⊥
not_distinct [] x ys among distinct = false≢true among
not_distinct (z ∷ zs) x ys among distinct = at (bytes_eq x z) refl (λ there. not_distinct zs x ys there distinct.1) among
  where
    at : (b : Bool) → bytes_eq x z ≡ b → (is_among zs x ≡ true → ⊥) → is_some (cond b (Some 0) (option_map (λ (place : ℕ). place + 1) (place_of zs x))) ≡ true → ⊥
    at true same never there =
        let is : x ≡ z = (bytes_eq-Decides x z).0 same in
        false≢true (sym distinct.0 ∙ ap (λ (n : List ℕ). is_among (zs ++ x ∷ ys) n) (sym is) ∙ among_at zs x ys)
    at false other never there = never (sym (same_some (place_of zs x)) ∙ there)

all_at : {A : Type 0} (P : A → Type 0) (xs : List A) (x : A) (ys : List A) → AllByRecursion P (xs ++ x ∷ ys) → P x
all_at P [] x ys all = all.0
all_at P (z ∷ zs) x ys all = all_at P zs x ys all.1

-- times of which those behind are cut off
rise_front : (xs ys : List Moment) → Rise (xs ++ ys) → Rise xs
rise_front [] ys rise = tt
rise_front (x ∷ []) ys rise = tt
rise_front (x ∷ y ∷ xs) ys rise = (rise.0, rise_front (y ∷ xs) ys rise.1)

never_without : (P : Changed → Type 0) (changes : List Changed) (change : Changed) → AllByRecursion P changes → IsFirstWithout P changes change → ⊥
never_without P changes change all first = first.broken (all_at P first.earlier change first.others (subst (AllByRecursion P) first.changes_are all))

never_twice : (declared : List Declared) (at : ℕ) → AreDistinct (codes_of declared) → IsTwiceAt declared at → ⊥
never_twice declared at distinct twice =
    let codes = ap codes_of twice.declared_are ∙ map-append (λ (it : Declared). it.code) twice.earlier (twice.again ∷ twice.others) in
    not_distinct (codes_of twice.earlier) twice.again.code (codes_of twice.others) twice.there (subst AreDistinct codes distinct)

never_back : (moments : List Moment) (at : ℕ) → Rise moments → IsBackAt moments at → ⊥
never_back moments at rise back =
    back.back (rise_front (back.earlier ++ back.moment ∷ []) back.others
    (subst Rise (back.moments_are ∙ sym (append_assoc back.earlier (back.moment ∷ []) back.others)) rise))

never_broken : (source : Source) (code : VcdCode) (at : ℕ) → IsRight source → IsSourceFault source code at → ⊥
never_broken source X01 at right fault = fault
never_broken source X02 at right (inl twice) = never_twice source.declared at right.distinct twice
never_broken source X02 at right (inr unknown) = never_without (IsKnown source.declared) (all_changes source.moments) unknown.1.0 right.known unknown.1.1
never_broken source X03 at right fault = never_without (HasWidth source.declared) (all_changes source.moments) fault.1.0 right.widths fault.1.1
never_broken source X04 at right fault = never_back source.moments at right.rise fault.2

-- words of a source leave the language nowhere
never_fails : (end : ℕ) (words : List Word) (at : ℕ) → HasSource words → FailsAt HasSource end words at → ⊥
never_fails end words at has (inl leaves) =
    leaves.none (leaves.rest, subst HasSource (leaves.words_are ∙ sym (append_assoc leaves.front (leaves.w ∷ []) leaves.rest)) has)
never_fails end words at has (inr ends) = ends.none has

pub one_wave : (text : List ℕ) (a b : Wave) → VcdText text a → VcdText text b → a ≡ b
one_wave text a b first second =
    first.wave_is ∙ ap wave_of (one_source (words_of text) first.source second.source first.words second.words) ∙ sym second.wave_is

pub no_text_is_both : (text : List ℕ) (wave : Wave) (fault : VcdFault) → VcdText text wave → IsVcdFault text fault → ⊥
no_text_is_both text wave fault is (inl form) = never_fails _ (words_of text) fault.at (is.source, is.words) form.1
no_text_is_both text wave fault is (inr broken) =
    let same = one_source (words_of text) is.source broken.0 is.words broken.1 in
    never_broken broken.0 fault.code fault.at (subst IsRight same is.right) broken.2
