-- The alternative that takes what is looked at.
use Rattle.std.specs.Prelude.{if◌then◌else◌, ◌==◌}
use Rattle.std.proofs.Common.{◌≡◌, ℕ, Bool, true, false, List, Some, refl, sym, ap, ◌∙◌}
use Rattle.std.proofs.lemmas.Bool.{eq-eqb, eqb-true}
use Rattle.chw_types.specs.declared.kind.Kind.{Kind}
use Rattle.chw_types.specs.TypeTree.{TypeTree}
use Rattle.chw_types.specs.SameTypes.{SameTypes}
use Rattle.chw_terms.specs.declared.term.Pattern.{Pattern}
use Rattle.chw_terms.specs.declared.term.Pattern.TheVariants.{OfCon, OfLit, Default}
use Rattle.chw_terms.specs.TermTree.{TermTree, Alts, no_alts, alt}
use Rattle.chw_typing.specs.Alternatives.{Hides}
use Rattle.chw_typing.specs.Scopes.{Setting, with_more}
use Rattle.chw_typing.specs.Typing.{HasType, Binds, AllGive, give_and}
use Rattle.chw_typing.specs.Paths.{Branch}
use Rattle.rewriting.specs.Shapes.{IsTakenBy, by_first, by_later}
use Rattle.chw_meaning.specs.Values.{Value, con_of, Thunks}
use Rattle.chw_meaning.specs.Eval.{matches, bound, arm_of}
use Rattle.rewriting.specs.Origins.{with_origins, with_origins_alts}

-- what the taken alternative binds, and its type
pub record TakenTyped (s : Setting) (kinds : List Kind) (vars : List TypeTree) (u t : TypeTree) (q : Pattern) (e : TermTree) : Type 0 where
  pub bnd : List TypeTree
  pub binds : Binds s kinds u q bnd
  pub type : TypeTree
  pub has : HasType s kinds (with_more bnd vars) e type
  pub same : SameTypes t type

pub taken_typed : {s : Setting} {kinds : List Kind} {vars : List TypeTree} {u t : TypeTree} {p : Pattern} {alts : Alts} {b : Branch} → IsTakenBy p alts b → AllGive s kinds vars u t alts → TakenTyped s kinds vars u t b.pattern b.body
taken_typed (by_first h) (give_and {bound = bnd} {v = v} bs d x rest) = record { bnd = bnd; binds = bs; type = v; has = d; same = x }
taken_typed (by_later miss r) (give_and bs d x rest) = taken_typed r rest

pub taken_hides : {p : Pattern} {alts : Alts} {b : Branch} → IsTakenBy p alts b → Hides b.pattern p
taken_hides (by_first h) = h
taken_hides (by_later miss r) = taken_hides r

-- the value is one for a pattern where the pattern leaves nothing for this one
abbrev pub Agrees : Value → Pattern → Pattern → Type 0
Agrees v p q = (Hides q p → matches v q ≡ true) × ((Hides q p → ⊥) → matches v q ≡ false)

abbrev pub AllAgree : Value → Pattern → Alts → Type 0
AllAgree v p no_alts = Unit {0}
AllAgree v p (alt q e more) = Agrees v p q × AllAgree v p more

pub taken_arm : (o : ℕ → TermTree) (v : Value) {p : Pattern} {alts : Alts} {b : Branch} → AllAgree v p alts → IsTakenBy p alts b → arm_of v (with_origins_alts o alts) ≡ Some (record { fields = bound v b.pattern; body = with_origins o b.body })
unfolding with_origins
taken_arm o v h (by_first {q = q} {e = e} {more = more} hit) = ap (λ b. if b then Some (record { fields = bound v q; body = with_origins o e }) else arm_of v (with_origins_alts o more)) (h.0.0 hit)
taken_arm o v h (by_later {q = q} {e = e} {more = more} miss r) =
    ap (λ b. if b then Some (record { fields = bound v q; body = with_origins o e }) else arm_of v (with_origins_alts o more)) (h.0.1 miss) ∙ taken_arm o v h.1 r

con_agrees : (c n : ℕ) (ths : Thunks) (q : Pattern) → Agrees (con_of c ths) (OfCon (record { number = c }) n) q
con_agrees c n ths (OfCon d m) = (λ same. eq-eqb c d.number (sym same), λ miss. split (c == d.number) refl miss)
  where
    split : (b : Bool) → (c == d.number) ≡ b → (d.number ≡ c → ⊥) → (c == d.number) ≡ false
    split true same miss = absurd (miss (sym (eqb-true c d.number same)))
    split false same miss = same
con_agrees c n ths (OfLit s b) = (λ h. absurd h, λ h. refl)
con_agrees c n ths Default = (λ h. refl, λ miss. absurd (miss tt))

pub con_all_agree : (c n : ℕ) (ths : Thunks) (alts : Alts) → AllAgree (con_of c ths) (OfCon (record { number = c }) n) alts
con_all_agree c n ths no_alts = tt
con_all_agree c n ths (alt q e more) = (con_agrees c n ths q, con_all_agree c n ths more)
