use Rattle.std.proofs.Common.{◌≡◌, ◌∙◌, ◌+◌, ◌-◌, ◌++◌, ℕ, suc, zero, List, [], ◌∷◌, take, length, ap, sym, arith}
use Rattle.chw_terms.proofs.gaps.GapBuffer.truncate.Goals as goal

-- the items of a first list, and so many of a second one
take_past : {X : Type 0} (xs ys : List X) (n m : ℕ) → n ≡ length xs + m → take n (xs ++ ys) ≡ xs ++ take m ys
take_past [] ys n m e = ap (λ k. take k ys) (omega (arith, e))
take_past (x ∷ xs) ys zero m e = absurd (omega (arith, e))
take_past (x ∷ xs) ys (suc n) m e = ap (λ zs. x ∷ zs) (take_past xs ys n m (omega (arith, e)))

pub returns : goal.returns
returns g c =
    let xs = c.self.inside.before.items in
    let ys = c.self.inside.behind.items in
    let n = c.args.count in
    let m = n - c.len-2.result in
    let count : n ≡ length xs + m = omega (arith, c.if-count-len.false, c.len.ensures, c.len-2.ensures) in
    ap (λ zs. xs ++ zs) c.truncate-2.ensures.items ∙ sym (take_past xs ys n m count) ∙ ap (take n) c.self.view_is
