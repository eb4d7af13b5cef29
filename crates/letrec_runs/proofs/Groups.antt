-- Bindings in order, those of a letrec that is taken apart among them.
use Rattle.std.proofs.Common.{◌≡◌, ◌∙◌, ℕ, suc, refl, sym, ap, List, [], ◌∷◌, ◌++◌, map, length}
use Rattle.chw_types.specs.TypeMoves.{Renaming, raised}
use Rattle.chw_terms.specs.declared.term.Binding.{Binding}
use Rattle.chw_terms.specs.TermMoves.{rename, rename_group, exchanged, shift}
use Rattle.chw_terms.specs.TermTree.{TermTree, letrec, Group, bind, size_of}
use Rattle.chw_terms.specs.TermView.{group_of}
use Rattle.chw_terms.proofs.TermLists.{size_of_group}
use Rattle.chw_typing.specs.Groups.{joined}
use Rattle.chw_typing.specs.Scopes.{declared}
use Rattle.chw_typing.proofs.GroupLists.{group_joined}
use Rattle.rewriting.specs.Lets.{side_joined}
use Rattle.rewriting.specs.Shapes.{shift_group}
use Rattle.moved_in_place.specs.Moves.{renamed_binding}
use Rattle.moved_in_place.proofs.Renamed.{renamed_group}
use Rattle.open_letrec.specs.Opened.{whole, joined_one, put_first}

pub declared_joined : (xs ys : List Binding) → declared (group_of (xs ++ ys)) ≡ declared (group_of xs) ++ declared (group_of ys)
declared_joined [] ys = refl
declared_joined (b ∷ xs) ys = ap (λ ts. b.ty ∷ ts) (declared_joined xs ys)

pub declared_length : (xs : List Binding) → length (declared (group_of xs)) ≡ length xs
declared_length [] = refl
declared_length (b ∷ xs) = ap suc (declared_length xs)

pub declared_renamed : (ρ : Renaming) (xs : List Binding) → declared (group_of (map (renamed_binding ρ) xs)) ≡ declared (group_of xs)
declared_renamed ρ [] = refl
declared_renamed ρ (b ∷ xs) = ap (λ ts. b.ty ∷ ts) (declared_renamed ρ xs)

-- the types are the same where another right side is put
pub declared_put : (settled left : List Binding) (y : TermTree) → declared (group_of (settled ++ put_first y left)) ≡ declared (group_of (settled ++ left))
declared_put [] [] y = refl
declared_put [] (b ∷ left) y = refl
declared_put (c ∷ settled) left y = ap (λ ts. c.ty ∷ ts) (declared_put settled left y)

-- the letrec, where one binding is current
pub whole_at : (settled rest : List Binding) (b : Binding) (e : TermTree)
    → whole (record { settled = settled; left = b ∷ rest; body = e })
    ≡ letrec (joined (group_of settled) (bind b.ty b.body (group_of rest))) e
whole_at settled rest b e = ap (λ g. letrec g e) (group_joined settled (b ∷ rest))

module _ (settled rest cs : List Binding) (b : Binding) (e x : TermTree) where
  abbrev own : ℕ
  own = suc (length rest)

  abbrev room : Renaming
  room = raised own (length cs)

  abbrev swap : Renaming
  swap = exchanged (length cs) own

  m_is : length cs ≡ size_of (group_of cs)
  m_is = sym (size_of_group cs)

  n_is : own ≡ suc (size_of (group_of rest))
  n_is = ap suc (sym (size_of_group rest))

  abbrev behind : Group
  behind = bind b.ty (rename x swap) (group_of (map (renamed_binding room) rest))

  abbrev all_joined : List Binding
  all_joined = map (renamed_binding room) settled ++ (map (renamed_binding swap) cs ++ put_first (rename x swap) (map (renamed_binding room) (b ∷ rest)))

  three : group_of all_joined ≡ joined (group_of (map (renamed_binding room) settled)) (joined (group_of (map (renamed_binding swap) cs)) behind)
  three =
      group_joined (map (renamed_binding room) settled) (map (renamed_binding swap) cs ++ put_first (rename x swap) (map (renamed_binding room) (b ∷ rest)))
      ∙ ap (joined (group_of (map (renamed_binding room) settled))) (group_joined (map (renamed_binding swap) cs) (put_first (rename x swap) (map (renamed_binding room) (b ∷ rest))))

  pub group_after_join : group_of all_joined ≡ side_joined (group_of settled) b.ty (group_of cs) x (group_of rest)
  group_after_join =
      three
      ∙ (λ i. joined (renamed_group room settled i) (joined (renamed_group swap cs i) (bind b.ty (rename x swap) (renamed_group room rest i))))
      ∙ (λ i. joined (shift_group (group_of settled) (n_is i) (m_is i)) (joined (rename_group (group_of cs) (exchanged (m_is i) (n_is i))) (bind b.ty (rename x (exchanged (m_is i) (n_is i))) (shift_group (group_of rest) (n_is i) (m_is i)))))

  pub body_after_join : rename e room ≡ shift e (suc (size_of (group_of rest))) (size_of (group_of cs))
  body_after_join = λ i. shift e (n_is i) (m_is i)

  -- the letrec that the current right side has joined
  pub whole_after_join : whole (joined_one (record { settled = settled; left = b ∷ rest; body = e }) cs x)
      ≡ letrec (side_joined (group_of settled) b.ty (group_of cs) x (group_of rest)) (shift e (suc (size_of (group_of rest))) (size_of (group_of cs)))
  whole_after_join = λ i. letrec (group_after_join i) (body_after_join i)
