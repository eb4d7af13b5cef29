-- The last binding of a list.
use Rattle.std.proofs.Common.{◌≡◌, ◌∙◌, ◌<◌, ◌+◌, ◌-◌, ℕ, suc, sym, arith, List, [], ◌∷◌, ◌++◌, take, length, get_or, set}
use Rattle.std.proofs.lemmas.List.{take_all, take_more, set_split, drop_all}
use Rattle.chw_terms.specs.declared.term.Binding.{Binding}
use Rattle.chw_terms.specs.TermTree.{TermTree}
use Rattle.open_letrec.specs.Parts.{IsSwappedLast}

pub last_swapped : (bs : List Binding) (b : Binding) (e x y : TermTree) (i : ℕ) → 0 < length bs → i ≡ length bs - 1 → b ≡ get_or bs i b → x ≡ e → y ≡ b.body → IsSwappedLast bs e (set bs i (record { ty = b.ty; body = x })) y
last_swapped bs b e x y i n last there xq yq =
    let within : i < length bs = omega (arith, n, last) in
    record {
      front = take i bs;
      last = b;
      old = sym (take_all (i + 1) bs (omega (arith, n, last))) ∙ take_more bs i b within ∙ (λ k. take i bs ++ sym there k ∷ []);
      new =
          set_split bs i _ within
          ∙ (λ k. take i bs ++ record { ty = b.ty; body = xq k } ∷ drop_all (suc i) bs (omega (arith, n, last)) k);
      taken = yq;
    }
