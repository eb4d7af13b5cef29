-- Walks one after the other, and inside of binders.
use Rattle.std.proofs.Common.{◌≡◌, ℕ, ◌+◌, ◌<◌, ◌≤◌, List, [], ◌∷◌, ◌++◌, length, get_or, take, drop, Option, refl, sym, ap, ◌∙◌, subst, arith}
use Rattle.std.specs.List.{flat_map}
use Rattle.std.proofs.lemmas.List.{drop-drop, take_more, take_all}
use Rattle.chw_grammar.specs.declared.word.Word.{Word}
use Rattle.chw_names.specs.Unknowns.{Walks, Scopes, within}
use Rattle.chw_names.specs.Words.{least_of, Meets}
use Rattle.chw_names.proofs.Earliest.{least_append}
use Rattle.chw_names.proofs.Steps.{one_more, all_items}

-- what is met where the scope stays as it is
pub walks_here : {S : Type 0} (scope : S) {met last : Option Word} {ws : List Word} → Meets met last ws → Walks S scope scope met last ws
walks_here scope d = record { scope = refl; least = d.least }

pub walks_none : {S : Type 0} (scope : S) (met : Option Word) → Walks S scope scope met met []
walks_none scope met = record { scope = refl; least = refl }

-- one walk after another, in the scope in which the first began
pub walks_then : {S : Type 0} {before mid after : S} {met m last : Option Word} (xs : List Word) (f : S → List Word) → Walks S before mid met m xs → Walks S mid after m last (f mid)
    → Walks S before after met last (xs ++ f before)
walks_then {before = before} {met = met} {m = m} xs f d e = record {
  scope = e.scope ∙ d.scope;
  least = e.least ∙ ap (λ s. least_of m (f s)) d.scope ∙ ap (λ (o : Option Word). least_of o (f before)) d.least ∙ sym (least_append met xs (f before));
}

pub walks_more : {S X : Type 0} (f : S → X → List Word) (xs : List X) (i : ℕ) (x : X) {before mid after : S} {met m last : Option Word} → i < length xs → x ≡ get_or xs i x
    → Walks S before mid met m (flat_map (f before) (take i xs)) → Walks S mid after m last (f mid x) → Walks S before after met last (flat_map (f before) (take (i + 1) xs))
walks_more {S = S} f xs i x {before = before} {after = after} {met = met} {last = last} lt is d e =
    subst (Walks S before after met last) (sym (one_more (f before) xs i x lt is)) (walks_then (flat_map (f before) (take i xs)) (λ s. f s x) d e)

pub walks_all : {S X : Type 0} (f : X → List Word) (xs : List X) (i : ℕ) {before after : S} {met last : Option Word} → length xs ≤ i
    → Walks S before after met last (flat_map f (take i xs)) → Walks S before after met last (flat_map f xs)
walks_all {S = S} f xs i {before = before} {after = after} {met = met} {last = last} le d = subst (Walks S before after met last) (all_items f xs i le) d

-- as many binders close as opened
pub closed_again : (ws : List Word) (names : List (List ℕ)) → drop (length ws) (within ws names) ≡ names
closed_again [] names = refl
closed_again (w ∷ ws) names =
    let inside = within ws (w.bytes ∷ names) in
    let one_more : length (w ∷ ws) ≡ length ws + 1 = omega arith in
    ap (λ n. drop n inside) one_more ∙ sym (drop-drop 1 (length ws) inside) ∙ ap (drop 1) (closed_again ws (w.bytes ∷ names))

-- binders of names open, and close behind the walk
pub names_inside : (ws : List Word) (f : List (List ℕ) → List Word) {before opened closed after : List (List ℕ)} {met last : Option Word} → opened ≡ within ws before
    → Walks (List (List ℕ)) opened closed met last (f opened) → after ≡ drop (length ws) closed → Walks (List (List ℕ)) before after met last (f (within ws before))
names_inside ws f {before = before} {met = met} opens d closes = record {
  scope = closes ∙ ap (drop (length ws)) (d.scope ∙ opens) ∙ closed_again ws before;
  least = d.least ∙ ap (λ s. least_of met (f s)) opens;
}

-- binders of variables
pub values_inside : (ws : List Word) (f : List (List ℕ) → List Word) {types types1 values opened closed after : List (List ℕ)} {met last : Option Word} → opened ≡ within ws values
    → Walks Scopes (types, opened) (types1, closed) met last (f opened) → after ≡ drop (length ws) closed → Walks Scopes (types, values) (types1, after) met last (f (within ws values))
values_inside ws f {types = types} {types1 = types1} {values = values} {opened = opened} {closed = closed} {after = after} {met = met} opens d closes =
    let same : types1 ≡ types = ap (λ (s : Scopes). s.0) d.scope in
    let inner : closed ≡ opened = ap (λ (s : Scopes). s.1) d.scope in
    let back : after ≡ values = closes ∙ ap (drop (length ws)) (inner ∙ opens) ∙ closed_again ws values in
    record {
      scope = ap (λ (names : List (List ℕ)). (names, after)) same ∙ ap (λ (names : List (List ℕ)). (types, names)) back;
      least = d.least ∙ ap (λ s. least_of met (f s)) opens;
    }

-- binders of type variables
pub types_inside : (ws : List Word) (f : List (List ℕ) → List Word) {types opened closed after values values1 : List (List ℕ)} {met last : Option Word} → opened ≡ within ws types
    → Walks Scopes (opened, values) (closed, values1) met last (f opened) → after ≡ drop (length ws) closed → Walks Scopes (types, values) (after, values1) met last (f (within ws types))
types_inside ws f {types = types} {opened = opened} {closed = closed} {after = after} {values = values} {values1 = values1} {met = met} opens d closes =
    let same : values1 ≡ values = ap (λ (s : Scopes). s.1) d.scope in
    let inner : closed ≡ opened = ap (λ (s : Scopes). s.0) d.scope in
    let back : after ≡ types = closes ∙ ap (drop (length ws)) (inner ∙ opens) ∙ closed_again ws types in
    record {
      scope = ap (λ (names : List (List ℕ)). (after, names)) same ∙ ap (λ (names : List (List ℕ)). (names, values)) back;
      least = d.least ∙ ap (λ s. least_of met (f s)) opens;
    }

-- a walk through a type, where variables are in scope too
pub in_types : {types types1 : List (List ℕ)} (values : List (List ℕ)) {met last : Option Word} {ws : List Word} → Walks (List (List ℕ)) types types1 met last ws
    → Walks Scopes (types, values) (types1, values) met last ws
in_types values d = record { scope = ap (λ (names : List (List ℕ)). (names, values)) d.scope; least = d.least }

within_append : (ws more : List Word) (names : List (List ℕ)) → within (ws ++ more) names ≡ within more (within ws names)
within_append [] more names = refl
within_append (w ∷ ws) more names = within_append ws more (w.bytes ∷ names)

-- the binders of one item more
pub bound_more : {X : Type 0} (f : X → List Word) (xs : List X) (i : ℕ) (x : X) (names : List (List ℕ)) {opened more : List (List ℕ)} → i < length xs → x ≡ get_or xs i x
    → opened ≡ within (flat_map f (take i xs)) names → more ≡ within (f x) opened → more ≡ within (flat_map f (take (i + 1) xs)) names
bound_more f xs i x names lt is e h =
    h ∙ ap (within (f x)) e ∙ sym (within_append (flat_map f (take i xs)) (f x) names) ∙ ap (λ ws. within ws names) (sym (one_more f xs i x lt is))

pub bound_all : {X : Type 0} (f : X → List Word) (xs : List X) (i : ℕ) (names : List (List ℕ)) {opened : List (List ℕ)} → length xs ≤ i → opened ≡ within (flat_map f (take i xs)) names
    → opened ≡ within (flat_map f xs) names
bound_all f xs i names le e = e ∙ ap (λ ws. within ws names) (all_items f xs i le)

-- a binder more
pub word_bound : (words : List Word) (i : ℕ) (w : Word) (names : List (List ℕ)) {opened more : List (List ℕ)} → i < length words → w ≡ get_or words i w
    → opened ≡ within (take i words) names → more ≡ w.bytes ∷ opened → more ≡ within (take (i + 1) words) names
word_bound words i w names lt is e h =
    h ∙ ap (λ (ns : List (List ℕ)). w.bytes ∷ ns) e ∙ sym (within_append (take i words) (w ∷ []) names)
    ∙ ap (λ ws. within ws names) (sym (take_more words i w lt ∙ ap (λ (v : Word). take i words ++ v ∷ []) (sym is)))

pub words_bound : (words : List Word) (i : ℕ) (names : List (List ℕ)) {opened : List (List ℕ)} → length words ≤ i → opened ≡ within (take i words) names → opened ≡ within words names
words_bound words i names le e = e ∙ ap (λ ws. within ws names) (take_all i words le)
