-- The types of bindings.
use Rattle.std.proofs.Common.{◌≡◌, ◌∙◌, ap, refl, List, [], ◌∷◌, ◌++◌, map, length}
use Rattle.std.proofs.lemmas.List.{map-append}
use Rattle.chw_types.specs.TypeMoves.{Renaming, raised}
use Rattle.chw_terms.specs.declared.term.Binding.{Binding}
use Rattle.chw_terms.specs.TermMoves.{rename, exchanged}
use Rattle.chw_terms.specs.TermTree.{TermTree}
use Rattle.moved_in_place.specs.Moves.{renamed_binding}
use Rattle.open_letrec.specs.Laws.{types_of}
use Rattle.open_letrec.specs.Opened.{Opened, put_first, joined_one}

pub types_renamed : (ρ : Renaming) (bs : List Binding) → types_of (map (renamed_binding ρ) bs) ≡ types_of bs
types_renamed ρ [] = refl
types_renamed ρ (b ∷ bs) = ap (λ ts. b.ty ∷ ts) (types_renamed ρ bs)

pub types_put : (e : TermTree) (bs : List Binding) → types_of (put_first e bs) ≡ types_of bs
types_put e [] = refl
types_put e (b ∷ bs) = refl

pub types_joined : (o : Opened) (cs : List Binding) (x : TermTree) → types_of (joined_one o cs x).left ≡ types_of cs ++ types_of o.left
types_joined o cs x =
    let swap = exchanged (length cs) (length o.left) in
    let roomed = map (renamed_binding (raised (length o.left) (length cs))) o.left in
    let left : types_of (put_first (rename x swap) roomed) ≡ types_of o.left = types_put (rename x swap) roomed ∙ types_renamed (raised (length o.left) (length cs)) o.left in
    map-append (λ (b : Binding). b.ty) (map (renamed_binding swap) cs) (put_first (rename x swap) roomed)
    ∙ (λ i. types_renamed swap cs i ++ left i)
