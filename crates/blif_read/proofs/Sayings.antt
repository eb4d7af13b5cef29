-- What words say behind a keyword, and what they don't.
use Rattle.std.proofs.Common.{◌≡◌, ℕ, ◌+◌, ◌<◌, Bool, true, false, List, [], ◌∷◌, ◌++◌, length, take, drop, get_or, codes, refl, sym, ap, ◌∙◌, subst, arith}
use Rattle.std.specs.Prelude.{◌↔◌}
use Rattle.std.specs.Borrow.{Bor}
use Rattle.std.specs.List.{AllByRecursion}
use Rattle.std.proofs.lemmas.List.{length-append}
use Rattle.bit_laws.specs.Gates.{digit_of}
use Rattle.blif_text.specs.Statements.{IsName, Says, Statement, words_of}
use Rattle.blif_text.specs.Statements.Statement.{ends, inputs_are, latch_of, model, outputs_are, row_of, table_of}
use Rattle.stimulus.specs.Texts.{texts}
use Rattle.blif_read.proofs.Lists.{all_front, all_last, all_push, last_apart, length-texts}
use Rattle.blif_read.proofs.Tags.{apart, tag, tag_says}

pub not_model : (others : List (List ℕ)) → (others ≡ codes "chw_top" ∷ [] → ⊥) → (s : Statement) → Says (codes ".model" ∷ others) s → ⊥
not_model others never model says = never (ap (drop 1) says.0)
not_model others never s says = apart 109 (tag s) refl (tag_says (codes ".model" ∷ others) s says)

pub not_inputs : (others : List (List ℕ)) → (AllByRecursion IsName others → ⊥) → (s : Statement) → Says (codes ".inputs" ∷ others) s → ⊥
not_inputs others never (inputs_are names) says = never (subst (AllByRecursion IsName) (sym (ap (drop 1) says.0)) says.1)
not_inputs others never s says = apart 105 (tag s) refl (tag_says (codes ".inputs" ∷ others) s says)

pub not_outputs : (others : List (List ℕ)) → (AllByRecursion IsName others → ⊥) → (s : Statement) → Says (codes ".outputs" ∷ others) s → ⊥
not_outputs others never (outputs_are names) says = never (subst (AllByRecursion IsName) (sym (ap (drop 1) says.0)) says.1)
not_outputs others never s says = apart 111 (tag s) refl (tag_says (codes ".outputs" ∷ others) s says)

pub not_table : (others : List (List ℕ)) → (AllByRecursion IsName others → ⊥) → (s : Statement) → Says (codes ".names" ∷ others) s → ⊥
not_table others never (table_of reads drives) says =
    never (subst (AllByRecursion IsName) (sym (ap (drop 1) says.0)) (all_push IsName reads drives says.1.0 says.1.1))
not_table others never s says = apart 110 (tag s) refl (tag_says (codes ".names" ∷ others) s says)

pub no_table : (others : List (List ℕ)) → length others ≡ 0 → (s : Statement) → Says (codes ".names" ∷ others) s → ⊥
no_table others none (table_of reads drives) says =
    let same : others ≡ reads ++ drives ∷ [] = ap (drop 1) says.0 in
    absurd (omega (arith, ap length same, length-append reads (drives ∷ [])))
no_table others none s says = apart 110 (tag s) refl (tag_says (codes ".names" ∷ others) s says)

pub not_end : (others : List (List ℕ)) → 0 < length others → (s : Statement) → Says (codes ".end" ∷ others) s → ⊥
not_end others some ends says =
    let same : others ≡ [] = ap (drop 1) says.0 in
    absurd (omega (arith, ap length same))
not_end others some s says = apart 101 (tag s) refl (tag_says (codes ".end" ∷ others) s says)

pub not_latch : (others : List (List ℕ)) → (length others ≡ 5 → ⊥) → (s : Statement) → Says (codes ".latch" ∷ others) s → ⊥
not_latch others never (latch_of takes drives clock initial) says = never (ap length (ap (drop 1) says.0))
not_latch others never s says = apart 108 (tag s) refl (tag_says (codes ".latch" ∷ others) s says)

-- what the words of a latch are
pub record IsLatch (takes drives edge clock initial : List ℕ) : Type 0 where
  pub edge_is : edge ≡ codes "re"
  pub names : IsName takes × IsName drives × IsName clock
  pub bit : Bool
  pub bit_is : initial ≡ digit_of bit ∷ []

pub latch_says : (takes drives edge clock initial : List ℕ) (s : Statement)
    → Says (codes ".latch" ∷ takes ∷ drives ∷ edge ∷ clock ∷ initial ∷ []) s → IsLatch takes drives edge clock initial
latch_says takes drives edge clock initial (latch_of t d c b) says = record {
  edge_is = ap (λ ws. get_or ws 3 []) says.0;
  names = (
    subst IsName (sym (ap (λ ws. get_or ws 1 []) says.0)) says.1.0,
    subst IsName (sym (ap (λ ws. get_or ws 2 []) says.0)) says.1.1,
    subst IsName (sym (ap (λ ws. get_or ws 4 []) says.0)) says.1.2,
  );
  bit = b;
  bit_is = ap (λ ws. get_or ws 5 []) says.0;
}
latch_says takes drives edge clock initial s says =
    absurd (apart 108 (tag s) refl (tag_says (codes ".latch" ∷ takes ∷ drives ∷ edge ∷ clock ∷ initial ∷ []) s says))

pub says_latch : (takes drives edge clock initial : List ℕ) (bit : Bool) → edge ≡ codes "re" → IsName takes × IsName drives × IsName clock
    → initial ≡ digit_of bit ∷ [] → Says (codes ".latch" ∷ takes ∷ drives ∷ edge ∷ clock ∷ initial ∷ []) (latch_of takes drives clock bit)
says_latch takes drives edge clock initial bit edge_is names bit_is = (
  ap (λ e. codes ".latch" ∷ takes ∷ drives ∷ e ∷ clock ∷ initial ∷ []) edge_is
      ∙ ap (λ i. codes ".latch" ∷ takes ∷ drives ∷ codes "re" ∷ clock ∷ i ∷ []) bit_is,
  names,
)

-- five words
pub five : (ws : List (Bor (List ℕ))) (d : Bor (List ℕ)) → length ws ≡ 5
    → texts ws ≡ (get_or ws 0 d).now ∷ (get_or ws 1 d).now ∷ (get_or ws 2 d).now ∷ (get_or ws 3 d).now ∷ (get_or ws 4 d).now ∷ []
five [] d is = absurd (omega arith)
five (a ∷ []) d is = absurd (omega arith)
five (a ∷ b ∷ []) d is = absurd (omega arith)
five (a ∷ b ∷ e ∷ []) d is = absurd (omega arith)
five (a ∷ b ∷ e ∷ f ∷ []) d is = absurd (omega arith)
five (a ∷ b ∷ e ∷ f ∷ g ∷ []) d is = refl
five (a ∷ b ∷ e ∷ f ∷ g ∷ h ∷ ws) d is = absurd (omega arith)

-- one word
pub only_one : (ws : List (Bor (List ℕ))) (d : Bor (List ℕ)) → length ws ≡ 1 → texts ws ≡ (get_or ws 0 d).now ∷ []
only_one [] d is = absurd (omega arith)
only_one (w ∷ []) d is = refl
only_one (w ∷ v ∷ ws) d is = absurd (omega arith)

pub only_where : (ws : List (Bor (List ℕ))) (d : Bor (List ℕ)) (word : List ℕ) (b : Bool) → length ws ≡ 1 → ((b ≡ true) ↔ ((get_or ws 0 d).now ≡ word))
    → ((b ≡ true) ↔ (texts ws ≡ word ∷ []))
only_where ws d word b one is = (
  λ is_true. only_one ws d one ∙ ap (λ w. w ∷ []) (is.0 is_true),
  λ same. is.1 (ap (λ (vs : List (List ℕ)). get_or vs 0 []) (sym (only_one ws d one) ∙ same)),
)

pub not_only : (ws : List (Bor (List ℕ))) (word : List ℕ) → (length ws ≡ 1 → ⊥) → texts ws ≡ word ∷ [] → ⊥
not_only ws word never same = never (sym (length-texts ws) ∙ ap length same)

-- a table of words of which the last is driven
pub says_table : (ws : List (Bor (List ℕ))) (n : ℕ) (d : Bor (List ℕ)) → length ws ≡ n + 1 → AllByRecursion IsName (texts ws)
    → Says (codes ".names" ∷ texts ws) (table_of (texts (take n ws)) (get_or ws n d).now)
says_table ws n d is names =
    let split = last_apart ws n d is in
    let all = subst (AllByRecursion IsName) split names in (
      ap (λ vs. codes ".names" ∷ vs) split,
      (all_front IsName (texts (take n ws)) (get_or ws n d).now all, all_last IsName (texts (take n ws)) (get_or ws n d).now all),
    )

pub says_table_of : (ws reads : List (Bor (List ℕ))) (n : ℕ) (d drives : Bor (List ℕ)) → length ws ≡ n + 1 → reads ≡ take n ws → drives ≡ get_or ws n d
    → AllByRecursion IsName (texts ws) → Says (codes ".names" ∷ texts ws) (table_of (texts reads) drives.now)
says_table_of ws reads n d drives is reads_are drives_is names =
    subst (λ (rs : List (Bor (List ℕ))). Says (codes ".names" ∷ texts ws) (table_of (texts rs) drives.now)) (sym reads_are)
    (subst (λ (x : Bor (List ℕ)). Says (codes ".names" ∷ texts ws) (table_of (texts (take n ws)) x.now)) (sym drives_is) (says_table ws n d is names))

-- names behind a keyword
pub says_inputs : (others names : List (Bor (List ℕ))) → names ≡ others → AllByRecursion IsName (texts others)
    → Says (codes ".inputs" ∷ texts others) (inputs_are (texts names))
says_inputs others names is all =
    subst (λ (ns : List (Bor (List ℕ))). Says (codes ".inputs" ∷ texts others) (inputs_are (texts ns))) (sym is) (refl, all)

pub says_outputs : (others names : List (Bor (List ℕ))) → names ≡ others → AllByRecursion IsName (texts others)
    → Says (codes ".outputs" ∷ texts others) (outputs_are (texts names))
says_outputs others names is all =
    subst (λ (ns : List (Bor (List ℕ))). Says (codes ".outputs" ∷ texts others) (outputs_are (texts ns))) (sym is) (refl, all)

pub no_bit : (word : List ℕ) → (word ≡ codes "0" → ⊥) → (word ≡ codes "1" → ⊥) → (bit : Bool) → word ≡ digit_of bit ∷ [] → ⊥
no_bit word zero one true is = one is
no_bit word zero one false is = zero is
