-- The bounds of a configuration's memory.
use Rattle.std.proofs.Common.{◌≡◌, ℕ, ◌≤◌, ◌^◌, true, List, Some, None, Ok, Err, refl, ap, arith, inl, inr}
use Rattle.std.specs.Prelude.{Option, Result, nat_le, ok_or, ◌&&◌}
use Rattle.std.specs.Option.{option_map_or}
use Rattle.std.specs.Result.{result_map_both}
use Rattle.texts.specs.Consecutive.{numbers}
use Rattle.std.proofs.lemmas.Bool.{and_parts, cases_Bool}
use Rattle.std.proofs.lemmas.Bool.Decides.{nat_tests}
use Rattle.ib_config.specs.Rules.{number, number_between, where_true}
use Rattle.ib_config.specs.Line.{lines_of, first_line_fault, assignments_of}
use Rattle.ib_config.specs.Variables as table
use Rattle.ib_config.specs.Variables.{Assigned, Wrong, assigned_in, value_of, text_of, required, by_rule}
use Rattle.ib_config.specs.Settings.{◌>>=◌, config_of, settings_of, guest_settings, each, IsConfig}
use Rattle.ib_config.specs.declared.fault.ConfigFault.{ConfigFault}
use Rattle.ib_config.specs.declared.fault.ConfigFault.TheVariants.{Missing, BadValue}
use Rattle.ib_config.specs.declared.settings.Settings.{Settings}

-- a value, where what follows it came to a value too
pub after : {A B : Type 0} (P : Type 0) (r : Result A ConfigFault) (f : A → Result B ConfigFault) (y : B) → (r >>= f) ≡ Ok y → ((x : A) → r ≡ Ok x → f x ≡ Ok y → P) → P
after P (Ok x) f y is on = on x refl is
after P (Err fault) f y is on = absurd (cc)

pub between : (low high n : ℕ) (text : List ℕ) → number_between low high text ≡ Some n → n ≤ high
between low high n text is = by (number text) refl
  where
    by : (o : Option ℕ) → number text ≡ o → n ≤ high
    by None read = absurd (let none : number_between low high text ≡ None = rw read refl in cc)
    by (Some m) read = inside (rw read at is)
      where
        inside : where_true (nat_le low m && nat_le m high) m ≡ Some n → n ≤ high
        inside found = elim (cases_Bool (nat_le low m && nat_le m high)) [
          | inl holds ↦
              let high_is : nat_le m high ≡ true = (and_parts (nat_le low m) (nat_le m high) holds).1 in
              let some : where_true (nat_le low m && nat_le m high) m ≡ Some m = rw holds refl in
              let same : m ≡ n = cc in
              let below : m ≤ high = grind (arith, nat_tests) in
              omega arith
          | inr fails ↦ absurd (let none : where_true (nat_le low m && nat_le m high) m ≡ None = rw fails refl in cc)
        ]

by_its_rule : (r : Option ℕ) (n : ℕ) (named : Wrong → ConfigFault) → result_map_both (λ x. x) named (ok_or r BadValue) ≡ Ok n → r ≡ Some n
by_its_rule None n named is = absurd (cc)
by_its_rule (Some m) n named is = let same : m ≡ n = cc in rw same refl

of_text : (high n : ℕ) (named : Wrong → ConfigFault) (text : Option (List ℕ)) → result_map_both (λ x. x) named (option_map_or (by_rule (number_between 0 high)) text (Err Missing)) ≡ Ok n → n ≤ high
of_text high n named None is = absurd (cc)
of_text high n named (Some text) is = between 0 high n text (by_its_rule (number_between 0 high text) n named is)

value_bound : (assigned : Assigned) (name : List ℕ) (high n : ℕ) → value_of assigned (required name (number_between 0 high)) None ≡ Ok n → n ≤ high
unfolding value_of
value_bound assigned name high n is = of_text high n _ (text_of assigned (required name (number_between 0 high)) None) is

-- the start and the end of the memory
start_in : Result Settings ConfigFault → ℕ
start_in (Ok settings) = settings.memory_start
start_in (Err fault) = 0

end_in : Result Settings ConfigFault → ℕ
end_in (Ok settings) = settings.memory_end
end_in (Err fault) = 0

abbrev Bounds : Settings → Type 0
Bounds settings = (settings.memory_start ≤ 2 ^ 40) × (settings.memory_end ≤ 2 ^ 40)

settings_bounds : (assigned : Assigned) (settings : Settings) → settings_of assigned ≡ Ok settings → Bounds settings
unfolding settings_of start_in end_in
settings_bounds assigned s is =
    after (Bounds s) (value_of assigned table.MEMORY_START None) _ s is (λ start start_is rest.
    after (Bounds s) (value_of assigned table.MEMORY_END None) _ s rest (λ end end_is rest.
    after (Bounds s) (value_of assigned table.DEVICE_TREE None) _ s rest (λ device_tree device_tree_is rest.
    after (Bounds s) (value_of assigned table.XEN None) _ s rest (λ xen xen_is rest.
    after (Bounds s) (value_of assigned table.XEN_CMD None) _ s rest (λ xen_cmd xen_cmd_is rest.
    after (Bounds s) (value_of assigned table.DOM0_KERNEL None) _ s rest (λ dom0_kernel dom0_kernel_is rest.
    after (Bounds s) (value_of assigned table.DOM0_RAMDISK None) _ s rest (λ dom0_ramdisk dom0_ramdisk_is rest.
    after (Bounds s) (value_of assigned table.DOM0_CMD None) _ s rest (λ dom0_cmd dom0_cmd_is rest.
    after (Bounds s) (value_of assigned table.NUM_DOMUS None) _ s rest (λ count count_is rest.
    after (Bounds s) (each (guest_settings assigned count) (numbers 0 count)) _ s rest (λ guests guests_is rest.
    let start_same : start ≡ s.memory_start = ap start_in rest in
    let end_same : end ≡ s.memory_end = ap end_in rest in
    (rw (← start_same) (value_bound assigned _ (2 ^ 40) start start_is), rw (← end_same) (value_bound assigned _ (2 ^ 40) end end_is))))))))))))

pub config_bounds : (settings : Settings) → IsConfig settings → Bounds settings
unfolding config_of
config_bounds s (bytes, short, is) = by (first_line_fault 1 (lines_of bytes)) is
  where
    by : (fault : Option ConfigFault) → option_map_or Err fault (settings_of (assigned_in (assignments_of bytes))) ≡ Ok s → Bounds s
    by None read = settings_bounds (assigned_in (assignments_of bytes)) s read
    by (Some fault) read = absurd (cc)
