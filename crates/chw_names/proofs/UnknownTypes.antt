-- Names in types that nothing declares, by the parts of a type.
use Rattle.std.proofs.Common.{◌≡◌, ℕ, List, [], ◌∷◌, ◌++◌, drop, Option, refl, sym, ap, ◌∙◌, subst}
use Rattle.std.specs.List.{flat_map}
use Rattle.chw_grammar.specs.declared.type_tree.KindTree.{KindTree}
use Rattle.chw_grammar.specs.declared.word.Word.{Word}
use Rattle.chw_grammar.specs.TypeTree.{Ty, type_forall, type_arrow, type_named, type_variable}
use Rattle.chw_grammar.specs.TypeView.{types_of}
use Rattle.chw_names.specs.declared.globals.Globals.{Globals}
use Rattle.chw_names.specs.Unknowns.{Walks, named_unknowns, type_unknowns, types_unknowns, unless_among}
use Rattle.chw_names.specs.Words.{Meets}
use Rattle.chw_names.proofs.Walking.{walks_here, walks_then, names_inside}

types_each : (g : Globals) (variables : List (List ℕ)) (ts : List Ty) → types_unknowns g variables (types_of ts) ≡ flat_map (type_unknowns g variables) ts
types_each g variables [] = refl
types_each g variables (t ∷ ts) = ap (λ ws. type_unknowns g variables t ++ ws) (types_each g variables ts)

pub forall_walks : (g : Globals) (w : Word) (k : KindTree) (t : Ty) {whole : Ty} {before opened closed after : List (List ℕ)} {met last : Option Word} → type_forall w k t ≡ whole
    → opened ≡ w.bytes ∷ before → Walks (List (List ℕ)) opened closed met last (type_unknowns g opened t) → after ≡ drop 1 closed
    → Walks (List (List ℕ)) before after met last (type_unknowns g before whole)
forall_walks g w k t {before = before} {after = after} {met = met} {last = last} is opens d closes =
    subst (Walks (List (List ℕ)) before after met last) (ap (type_unknowns g before) is) (names_inside (w ∷ []) (λ names. type_unknowns g names t) opens d closes)

pub arrow_walks : (g : Globals) (a b : Ty) {whole : Ty} {before mid after : List (List ℕ)} {met m last : Option Word} → type_arrow a b ≡ whole
    → Walks (List (List ℕ)) before mid met m (type_unknowns g before a) → Walks (List (List ℕ)) mid after m last (type_unknowns g mid b)
    → Walks (List (List ℕ)) before after met last (type_unknowns g before whole)
arrow_walks g a b {before = before} {after = after} {met = met} {last = last} is d e =
    subst (Walks (List (List ℕ)) before after met last) (ap (type_unknowns g before) is) (walks_then (type_unknowns g before a) (λ names. type_unknowns g names b) d e)

pub parts_walk : (g : Globals) (ts : List Ty) (whole : Ty) {before after : List (List ℕ)} {met last : Option Word} → types_unknowns g before (types_of ts) ≡ type_unknowns g before whole
    → Walks (List (List ℕ)) before after met last (flat_map (type_unknowns g before) ts) → Walks (List (List ℕ)) before after met last (type_unknowns g before whole)
parts_walk g ts whole {before = before} {after = after} {met = met} {last = last} is d = subst (Walks (List (List ℕ)) before after met last) (sym (types_each g before ts) ∙ is) d

pub named_walks : (g : Globals) (w : Word) (ts : List Ty) {whole : Ty} {before after : List (List ℕ)} {met m last : Option Word} → type_named w (types_of ts) ≡ whole
    → Meets met m (named_unknowns g w) → Walks (List (List ℕ)) before after m last (flat_map (type_unknowns g before) ts) → Walks (List (List ℕ)) before after met last (type_unknowns g before whole)
named_walks g w ts {before = before} {after = after} {met = met} {last = last} is here d =
    subst (Walks (List (List ℕ)) before after met last)
    (ap (λ ws. named_unknowns g w ++ ws) (sym (types_each g before ts)) ∙ ap (type_unknowns g before) is)
    (walks_then (named_unknowns g w) (λ names. flat_map (type_unknowns g names) ts) (walks_here before here) d)

pub variable_walks : (g : Globals) (w : Word) (before : List (List ℕ)) {whole : Ty} {met last : Option Word} → type_variable w ≡ whole → Meets met last (unless_among before w)
    → Walks (List (List ℕ)) before before met last (type_unknowns g before whole)
variable_walks g w before {met = met} {last = last} is here =
    subst (Walks (List (List ℕ)) before before met last) (ap (type_unknowns g before) is) (walks_here before here)
