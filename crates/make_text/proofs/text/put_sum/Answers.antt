use Rattle.std.specs.Prelude.{◌≡◌, List, ◌++◌, flat_map, codes}
use Rattle.std.specs.List.{range_with_len}
use Rattle.std.proofs.Common.{ℕ, append_assoc, ap, sym, ◌∙◌}
use Rattle.make_text.specs.MakeText.{element_text}
use Rattle.make_text.proofs.Written.{sum_around, sum_written}
use Rattle.make_text.proofs.text.put_sum.Goals as goal

pub returns : goal.returns
returns c =
    let out = c.args.out.now.items in
    let taps = c.args.taps in
    let written : c.put-3.new.out.items ≡ out ++ sum_around taps (flat_map element_text (range_with_len 0 c.saturating_sub.result) ++ codes "] ; ") =
    simp (c.in_ok-put-3.ensures, c.in_ok-put_elements.ensures, c.in_ok-put_number-2.ensures, c.in_ok-put-2.ensures, c.from.ensures, c.in_ok-put_number.ensures, c.in_ok-put.ensures, append_assoc) in
    written
    ∙ ap (λ n. out ++ sum_around taps (flat_map element_text (range_with_len 0 n) ++ codes "] ; ")) c.saturating_sub.ensures
    ∙ ap (λ (z : List ℕ). out ++ z) (sym (sum_written taps))
