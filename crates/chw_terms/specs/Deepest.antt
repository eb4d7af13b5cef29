-- The depths of the arguments of a head, and of the deepest of some items.
use Rattle.std.specs.Prelude.{ℕ, max, List, [], ◌∷◌}
use Rattle.chw_terms.specs.declared.term.Arg.{Arg}
use Rattle.chw_terms.specs.declared.term.Arg.TheVariants.{OfTerm, OfType}
use Rattle.chw_terms.specs.declared.term.Binding.{Binding}
use Rattle.chw_terms.specs.declared.term.Alt.{Alt}
use Rattle.chw_terms.specs.Depth.{depth, type_depth}

abbrev pub arg_depth : Arg → ℕ
arg_depth (OfTerm e) = depth e
arg_depth (OfType t) = type_depth t

abbrev pub binding_depth : Binding → ℕ
binding_depth b = max (type_depth b.ty) (depth b.body)

abbrev pub alt_depth : Alt → ℕ
alt_depth a = depth a.body

-- the depth of the deepest item, 0 where there is none
abbrev pub deepest_of : {X : Type 0} → (X → ℕ) → List X → ℕ
deepest_of f [] = 0
deepest_of f (x ∷ xs) = max (f x) (deepest_of f xs)
