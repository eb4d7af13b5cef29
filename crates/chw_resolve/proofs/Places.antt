-- The definition of the top is one of the program's.
use Rattle.std.proofs.Common.{◌≡◌, ℕ, suc, ◌+◌, ◌-◌, ◌<◌, ◌≤◌, Bool, true, false, not, cond, List, [], ◌∷◌, ◌++◌, length, Option, Some, None, refl, sym, ap, ◌∙◌, subst, arith}
use Rattle.std.specs.List.{flat_map}
use Rattle.std.specs.Option.{is_some, option_map, unwrap_or}
use Rattle.std.specs.Str.{bytes_eq}
use Rattle.std.proofs.lemmas.List.{append_assoc, append-nil, length-map, length-append}
use Rattle.std.proofs.lemmas.Option.{none-some, same_Some}
use Rattle.std.proofs.lemmas.Bool.{or_parts}
use Rattle.chw_grammar.specs.declared.program.Declaration.{Declaration}
use Rattle.chw_grammar.specs.declared.program.Declaration.TheVariants as declaration
use Rattle.chw_grammar.specs.declared.program.Tree.{Tree}
use Rattle.chw_names.specs.declared.globals.Globals.{Globals}
use Rattle.chw_names.specs.declared.space.Space.TheVariants.{Definitions}
use Rattle.chw_names.specs.Globals.{words_in, globals_of}
use Rattle.chw_names.specs.Unknowns.{declaration_unknowns, top_unknowns, unknowns}
use Rattle.chw_names.specs.Words.{names_of, with_names}
use Rattle.chw_resolve.specs.Faults.{definitions_of}
use Rattle.chw_resolve.proofs.Empty.{right_nil, when_nil}
use Rattle.name_tables.specs.Names.{place_of, is_among}
use Rattle.chw_prims.specs.declared.names.TheConstants.{ALL}
use Rattle.chw_prims.specs.Names.{primitive_names, name_of}
use Rattle.chw_resolve.specs.Programs.{defs_in, top_in}
use Rattle.chw_resolve.specs.Terms.{primitives}

place_within : (names : List (List ℕ)) (name : List ℕ) (p : ℕ) → place_of names name ≡ Some p → p < length names
place_within [] name p e = absurd (none-some p e)
place_within (n ∷ names) name p e = by (bytes_eq name n) (place_of names name) (place_within names name) e
  where
    by : (b : Bool) (o : Option ℕ) → ((q : ℕ) → o ≡ Some q → q < length names) → cond b (Some 0) (option_map (λ (p : ℕ). p + 1) o) ≡ Some p → p < length (n ∷ names)
    by true o rest e = let same : 0 ≡ p = same_Some 0 p e in omega arith
    by false None rest e = absurd (none-some p e)
    by false (Some q) rest e = let less : q < length names = rest q refl in let same : q + 1 ≡ p = same_Some (q + 1) p e in omega arith

-- a name that is none of the first names stands behind them
place_behind : (known more : List (List ℕ)) (name : List ℕ) (p : ℕ) → is_among known name ≡ false → place_of (known ++ more) name ≡ Some p → length known ≤ p
place_behind [] more name p new e = omega arith
place_behind (n ∷ known) more name p new e = by (bytes_eq name n) (place_of known name) (place_of (known ++ more) name) (place_behind known more name) new e
  where
    by : (b : Bool) (o r : Option ℕ) → ((q : ℕ) → is_some o ≡ false → r ≡ Some q → length known ≤ q) → is_some (cond b (Some 0) (option_map (λ (p : ℕ). p + 1) o)) ≡ false
        → cond b (Some 0) (option_map (λ (p : ℕ). p + 1) r) ≡ Some p → length (n ∷ known) ≤ p
    by true o r rest new e = absurd (cc)
    by false (Some q) r rest new e = absurd (cc)
    by false None None rest new e = absurd (cc)
    by false None (Some q) rest new e =
        let le : length known ≤ q = rest q refl refl in let same : q + 1 ≡ p = same_Some (q + 1) p e in omega arith

-- names that are added stand behind those before
record Added (known new : List (List ℕ)) : Type 0 where
  more : List (List ℕ)
  whole : with_names known new ≡ known ++ more
  few : length more ≤ length new

names_added : (new known : List (List ℕ)) → Added known new
names_added [] known = record { more = []; whole = sym (append-nil known); few = omega arith }
names_added (n ∷ new) known = by (is_among known n) refl (names_added new known) (names_added new (known ++ n ∷ []))
  where
    by : (b : Bool) → is_among known n ≡ b → Added known new → Added (known ++ n ∷ []) new → Added known (n ∷ new)
    by true h same longer = record {
      more = same.more;
      whole = ap (λ (b : Bool). with_names (cond b known (known ++ n ∷ [])) new) h ∙ same.whole;
      few = omega (arith, same.few);
    }
    by false h same longer = record {
      more = n ∷ longer.more;
      whole = ap (λ (b : Bool). with_names (cond b known (known ++ n ∷ [])) new) h ∙ longer.whole ∙ append_assoc known (n ∷ []) longer.more;
      few = omega (arith, longer.few);
    }

-- so the place of one of them, counted behind those before, is below their number
counted_behind : (known new : List (List ℕ)) (name : List ℕ) (n : ℕ) → n ≡ length known → is_among known name ≡ false → is_among (with_names known new) name ≡ true
    → unwrap_or (place_of (with_names known new) name) 0 - n < length new
counted_behind known new name n size new_name among = by (place_of (with_names known new) name) refl among
  where
    by : (o : Option ℕ) → place_of (with_names known new) name ≡ o → is_some o ≡ true → unwrap_or o 0 - n < length new
    by None h some = absurd (cc)
    by (Some p) h some =
        let a = names_added new known in
        let there : place_of (known ++ a.more) name ≡ Some p = subst (λ (names : List (List ℕ)). place_of names name ≡ Some p) a.whole h in
        let low : length known ≤ p = place_behind known a.more name p new_name there in
        let high : p < length (known ++ a.more) = place_within (known ++ a.more) name p there in
        omega (arith, low, high, a.few, length-append known a.more)

-- each definition has a word
words_counted : (g : Globals) (ds : List Declaration) → length (names_of (flat_map (words_in Definitions) ds)) ≡ length (flat_map (defs_in g) ds)
words_counted g [] = refl
words_counted g (declaration.Domain w has_reset ∷ ds) = words_counted g ds
words_counted g (declaration.Data w ps cs ∷ ds) = words_counted g ds
words_counted g (declaration.Def w t e ∷ ds) = ap suc (words_counted g ds)

primitives_counted : primitives ≡ length primitive_names
unfolding primitives
primitives_counted = sym (length-map ALL name_of)

pub top_below : (tree : Tree) → unknowns tree ≡ [] → (top_in (globals_of tree.declarations) tree.top).«def».number < length (definitions_of tree)
top_below tree known =
    let g = globals_of tree.declarations in
    let name = tree.top.definition.bytes in
    let words = names_of (flat_map (words_in Definitions) tree.declarations) in
    let top : top_unknowns g tree.top ≡ [] = right_nil (flat_map (declaration_unknowns g) tree.declarations) (top_unknowns g tree.top) known in
    let tests = or_parts (is_among primitive_names name) (not (is_among g.definitions name)) (when_nil _ tree.top.definition top) in
    subst (λ (n : ℕ). (top_in g tree.top).«def».number < n) (words_counted g tree.declarations)
    (counted_behind primitive_names words name primitives primitives_counted tests.0 (denied (is_among g.definitions name) tests.1))
  where
    denied : (b : Bool) → not b ≡ false → b ≡ true
    denied true h = refl
    denied false h = absurd (cc)
