-- A line's first fault, read part after part.
use Rattle.std.proofs.Common.{◌≡◌, ℕ, Bool, true, false, cond, not, ◌&&◌, List, [], ◌∷◌, refl, ap, ◌∙◌, Ok, Err, Some, None}
use Rattle.std.specs.Prelude.{Result, Option}
use Rattle.std.specs.Str.{is_utf8}
use Rattle.texts.specs.Rows.{first_that_applies}
use Rattle.ib_config.specs.Settings.{◌>>=◌}
use Rattle.ib_config.specs.Line.{Assignment, body_faults, body_of, says_nothing, line_fault, assignment_of, has_bracket, has_index, has_name, after_name, name_of, value_part, value_of_part, is_open, is_plain_part, is_unsupported, index_of, assigned_by}
use Rattle.ib_config.specs.PrivateScan.{unless, line_read, body_read, body_steps, index_read, part_read}
use Rattle.ib_config.specs.declared.fault.ConfigFault.{ConfigFault}
use Rattle.ib_config.specs.declared.fault.ConfigFault.TheVariants.{NotUtf8, BadName, BadIndex, OpenQuote, NotPlain, Unsupported}

-- five faults in a row, and the same in three steps
in_steps : {A I : Type 0} (b₁ b₂ b₃ b₄ b₅ : Bool) (e₁ e₂ e₃ e₄ e₅ : ConfigFault) (i : I) (t : List ℕ) (x : I → List ℕ → A) (step : I → Result (List ℕ) ConfigFault)
    → step i ≡ unless (first_that_applies ((b₃, e₃) ∷ (b₄, e₄) ∷ [])) t
    → unless (first_that_applies ((b₁, e₁) ∷ (b₂, e₂) ∷ (b₃, e₃) ∷ (b₄, e₄) ∷ (b₅, e₅) ∷ [])) (x i t)
    ≡ cond b₁ (Err e₁) (unless (first_that_applies ((b₂, e₂) ∷ [])) i >>= λ j. step j >>= λ u. cond b₅ (Err e₅) (Ok (x j u)))
in_steps true b₂ b₃ b₄ b₅ e₁ e₂ e₃ e₄ e₅ i t x step is = refl
in_steps false true b₃ b₄ b₅ e₁ e₂ e₃ e₄ e₅ i t x step is = refl
in_steps false false true b₄ b₅ e₁ e₂ e₃ e₄ e₅ i t x step is = rw is refl
in_steps false false false true b₅ e₁ e₂ e₃ e₄ e₅ i t x step is = rw is refl
in_steps false false false false true e₁ e₂ e₃ e₄ e₅ i t x step is = rw is refl
in_steps false false false false false e₁ e₂ e₃ e₄ e₅ i t x step is = rw is refl

pub body_read_is : (n : ℕ) (body : List ℕ) → body_read n body ≡ body_steps n body
unfolding body_read body_steps index_read part_read
body_read_is n body =
    let after : List ℕ = after_name body in
    let named : Option ℕ → List ℕ → Assignment = λ index text. record { key = record { name = name_of body; index = index }; text = text } in
    in_steps (not (has_name body)) (has_bracket after && not (has_index after)) (is_open (value_part after)) (not (is_plain_part (value_part after))) (is_unsupported (name_of body))
    (BadName n) (BadIndex n) (OpenQuote n) (NotPlain n) (Unsupported n)
    (index_of after, value_part after) (value_of_part (value_part after)) (λ j text. named j.0 text) (λ j. part_read n j.1) refl

some_unless : {A : Type 0} (fault : Option ConfigFault) (x : A) → unless fault (Some x) ≡ (unless fault x >>= λ a. Ok (Some a))
some_unless None x = refl
some_unless (Some e) x = refl

pub read_not_utf8 : (n : ℕ) (line : List ℕ) → is_utf8 line ≡ false → line_read n line ≡ Err (NotUtf8 n)
unfolding line_fault assignment_of
read_not_utf8 n line e = rw e refl

pub read_silent : (n : ℕ) (line : List ℕ) → is_utf8 line ≡ true → says_nothing (body_of line) ≡ true → line_read n line ≡ Ok None
unfolding line_fault assignment_of
read_silent n line e s = rw (e, s) refl

pub read_body : (n : ℕ) (line : List ℕ) → is_utf8 line ≡ true → says_nothing (body_of line) ≡ false
    → line_read n line ≡ (body_steps n (body_of line) >>= λ a. Ok (Some a))
unfolding line_fault assignment_of body_read
read_body n line e s = rw (e, s) (some_unless (first_that_applies (body_faults n (body_of line))) (assigned_by (body_of line)))
    ∙ ap (λ r. r >>= λ a. Ok (Some a)) (body_read_is n (body_of line))

pub ruleset line_lemmas = (read_not_utf8, read_silent, read_body)
