-- The rules on statements by what is kept of those before.
use Rattle.std.proofs.Common.{◌≡◌, ℕ, ◌+◌, ◌<◌, Bool, true, false, List, [], ◌∷◌, ◌++◌, length, map, take, drop, get_or, codes, refl, sym, ap, ◌∙◌, subst}
use Rattle.std.specs.Prelude.{IsTrue, ◌↔◌}
use Rattle.std.specs.List.{AllByRecursion}
use Rattle.std.proofs.lemmas.Bool.{false≢true}
use Rattle.name_tables.specs.Names.{AreDistinct, is_among}
use Rattle.blif_text.specs.BlifText.{EachIs, HasClock, HasLength, HasNames, Said, all_given, all_inputs, given_by, read_by, width_behind, width_with}
use Rattle.blif_text.specs.Faults.{IsFirstWithout}
use Rattle.blif_text.specs.Statements.{Statement}
use Rattle.blif_text.specs.Statements.Statement.{latch_of, row_of}
use Rattle.blif_text.proofs.Going.{each_more, width_more}
use Rattle.blif_read.specs.Naming.{AreKnown, HasSame, HasWidth, KeepsNames}
use Rattle.blif_read.specs.Shown.{all_said, said_of, statement_of}
use Rattle.blif_read.specs.declared.names.Names.{Names}
use Rattle.blif_read.specs.declared.statement.Said.{Said as ReadSaid}
use Rattle.blif_read.proofs.Lists.{around, flat_more, mapped_more}

known_same : (a b names : List (List ℕ)) → ((n : List ℕ) → is_among a n ≡ is_among b n) → AreKnown a names → AreKnown b names
known_same a b [] same known = tt
known_same a b (n ∷ names) same known = (sym (same n) ∙ known.0, known_same a b names same known.1)

clock_same : (a b : List (List ℕ)) (it : Statement) → ((n : List ℕ) → is_among a n ≡ is_among b n) → HasClock a it → HasClock b it
clock_same a b (latch_of takes drives clock initial) same has = (sym (same clock) ∙ has.0, has.1)
clock_same a b _ same has = tt

-- the rule by the tables
pub names_kept : (all earlier : List Said) (names : Names) (driven : List (List ℕ)) (it : Statement) → HasSame (all_inputs all) names.inputs
    → HasSame (all_given all) names.given → driven ≡ all_given earlier → HasNames all earlier it → KeepsNames names driven it
names_kept all earlier names driven it inputs given is has = record {
  known = known_same (all_given all) names.given (read_by it) (λ n. sym (given.same n)) has.known;
  clocked = clock_same (all_inputs all) names.inputs it (λ n. sym (inputs.same n)) has.clocked;
  once = subst (λ (ds : List (List ℕ)). AreDistinct (ds ++ given_by it)) (sym is) has.once;
}

pub names_right : (all earlier : List Said) (names : Names) (driven : List (List ℕ)) (it : Statement) → HasSame (all_inputs all) names.inputs
    → HasSame (all_given all) names.given → driven ≡ all_given earlier → KeepsNames names driven it → HasNames all earlier it
names_right all earlier names driven it inputs given is keeps = record {
  known = known_same names.given (all_given all) (read_by it) given.same keeps.known;
  once = subst (λ (ds : List (List ℕ)). AreDistinct (ds ++ given_by it)) is keeps.once;
  clocked = clock_same names.inputs (all_inputs all) it inputs.same keeps.clocked;
}

-- the first statement of which something doesn't hold
pub first_without : (Right : List Said → Statement → Type 0) (all : List ReadSaid) (i : ℕ) (it d : ReadSaid) → i < length all → it ≡ get_or all i d
    → EachIs Right [] (all_said (take i all)) → (Right (all_said (take i all)) (statement_of it.says) → ⊥) → IsFirstWithout Right (all_said all) it.number
first_without Right all i it d within is before broken = record {
  earlier = all_said (take i all);
  it = said_of it;
  others = all_said (drop (i + 1) all);
  all_are = around said_of all i it d within is;
  before = before;
  broken = broken;
  here = refl;
}

-- one statement more of which it holds
pub each_next : (Right : List Said → Statement → Type 0) (all : List ReadSaid) (i : ℕ) (it d : ReadSaid) → i < length all → it ≡ get_or all i d
    → EachIs Right [] (all_said (take i all)) → Right (all_said (take i all)) (statement_of it.says) → EachIs Right [] (all_said (take (i + 1) all))
each_next Right all i it d within is before right =
    subst (EachIs Right []) (sym (mapped_more said_of all i it d within is)) (each_more Right [] (all_said (take i all)) (said_of it) before right)

-- what is driven with one statement more
pub driven_next : (all : List ReadSaid) (i : ℕ) (it d : ReadSaid) (driven new : List (List ℕ)) → i < length all → it ≡ get_or all i d
    → driven ≡ all_given (all_said (take i all)) → new ≡ driven ++ given_by (statement_of it.says) → new ≡ all_given (all_said (take (i + 1) all))
driven_next all i it d driven new within is so_far new_is =
    new_is ∙ ap (λ (ds : List (List ℕ)). ds ++ given_by (statement_of it.says)) so_far ∙ sym (flat_more (λ (x : Said). given_by x.says) all i it d within is)

-- lengths
pub length_right : (earlier : List Said) (width : ℕ) (it : Statement) → width ≡ width_behind 0 earlier → HasWidth width it → HasLength earlier it
length_right earlier width (row_of marks) is has = has ∙ is
length_right earlier width _ is has = tt

pub length_kept : (earlier : List Said) (width : ℕ) (it : Statement) → width ≡ width_behind 0 earlier → HasLength earlier it → HasWidth width it
length_kept earlier width (row_of marks) is has = has ∙ sym is
length_kept earlier width _ is has = tt

pub width_next : (all : List ReadSaid) (i : ℕ) (it d : ReadSaid) (width new : ℕ) → i < length all → it ≡ get_or all i d
    → width ≡ width_behind 0 (all_said (take i all)) → new ≡ width_with width (statement_of it.says) → new ≡ width_behind 0 (all_said (take (i + 1) all))
width_next all i it d width new within is so_far new_is =
    new_is ∙ ap (λ n. width_with n (statement_of it.says)) so_far ∙ sym (width_more 0 (all_said (take i all)) (said_of it))
    ∙ ap (width_behind 0) (sym (mapped_more said_of all i it d within is))
