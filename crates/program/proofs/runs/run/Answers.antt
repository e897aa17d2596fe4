use Rattle.std.proofs.Common.{rules, ◌≡◌, ◌∙◌, sym, subst, refl, inl, inr, ℕ, List, map, string_bytes}
use Rattle.outside.specs.Outside.{File, Rose, and_bytes}
use Rattle.outside.specs.declared.status.Status.{Status}
use Rattle.outside.specs.declared.status.Status.TheVariants as statuses
use Rattle.run_steps.specs.Endings.{Finds, and_files}
use Rattle.run_steps.specs.Outputs.{files_of, report_of}
use Rattle.run_steps.proofs.Taken.{built_or_not}
use Rattle.program.specs.Made.{status_of}
use Rattle.program.specs.Programs.{usage_line}
use Rattle.program.proofs.Exact.{exact_build, same_build, exact_finding, no_build, exact_unasked, exact_stop, fault_cause}
use Rattle.program.proofs.Verdicts.{of_list, is_verdict, is_verdict_or_write, no_write}
use Rattle.program.proofs.runs.run.Goals as goal

pub returns-in-Ok-Built : goal.returns-in-Ok-Built
returns-in-Ok-Built g c =
    let words = map string_bytes c.args.words.now in
    let called = g.P.Program.calls_for words in
    let one = c.one_outcome.ensures words in
    let told = g.F.Files.held c.args.files.now in
    let failed = Rose (g.F.Files.counts c.args.files.now).failed (g.F.Files.counts c.make.new.files).failed in
    let build = c.in-Ok-Built.build in
    let calls = rw c.in-Ok-Built.field-0-is at c.in-Ok-Built.ensures.built in
    let promised = rw c.in-Ok-Built.field-0-is at c.in-Ok-Built.ensures.promised in
    let ended = c.write_all.ensures in
    record {
      ran = record {
        built = λ is. let done = ended.built is in (files_of build, report_of build, calls, promised, done.0, done.1, done.2);
        memory = search rules;
        words = search rules;
        unasked = λ text refused. absurd (c.asks_nothing.ensures words text told _ refused calls);
        found = search rules;
        longer = search rules;
        read = search rules;
        write = λ is. let part = ended.write is in inl (files_of build, report_of build, part.0, calls, rw c.program_name-name.ensures at part.1, part.2);
        room = λ is. inl (files_of build, report_of build, calls, λ room. built_or_not c.write_all.result (ended.room room) is);
        exact = exact_build called one told failed (files_of build) (report_of build) c.write_all.result calls ended.only;
        complete = same_build called one told (⊥) (files_of build) (report_of build)
            (λ (outputs : List File) (report : List ℕ). c.write_all.result ≡ statuses.Built → (g.O.Outs.written c.write_all.new.outs ≡ and_files (g.O.Outs.written c.args.outs.now) outputs) × (g.S.Sink.taken c.write_all.new.out ≡ and_bytes (g.S.Sink.taken c.args.out.now) report))
            calls (λ is. let done = ended.built is in (done.0, done.1));
        outs_kept = search rules;
        out_kept = search rules;
        files_kept = search rules;
      };
    }

pub returns-in-Ok-Found : goal.returns-in-Ok-Found
returns-in-Ok-Found g c =
    let words = map string_bytes c.args.words.now in
    let called = g.P.Program.calls_for words in
    let one = c.one_outcome.ensures words in
    let told = g.F.Files.held c.args.files.now in
    let failed = Rose (g.F.Files.counts c.args.files.now).failed (g.F.Files.counts c.make.new.files).failed in
    let verdict = c.in-Ok-Found.verdict in
    let list = c.in-Ok-Found.list in
    let calls = rw c.in-Ok-Found.field-0-is at c.in-Ok-Found.ensures.built in
    let ended = c.write_found.ensures in
    let status = c.write_found.result in
    let not = of_list verdict status ended.only in
    record {
      ran = record {
        built = λ is. absurd (not.built is);
        memory = λ is. absurd (not.memory is);
        words = λ is. absurd (not.words is);
        unasked = λ text refused. absurd (c.asks_nothing.ensures words text told _ refused calls);
        found = λ is. let same = is_verdict verdict status ended.only is in
            inr (list, subst (λ (s : Status). called told (Finds s list)) (sym same) calls, rw c.as_slice.ensures at (ended.found same).0, (ended.found same).1);
        longer = λ is. absurd (not.longer is);
        read = λ is. absurd (not.read is);
        write = λ is. let part = ended.write is in inr (status_of verdict, list, calls, rw c.program_name-name.ensures at part.0, part.1, rw c.as_slice.ensures at part.2, refl);
        room = λ is. inr (status_of verdict, list, calls, λ room. no_write verdict (sym (ended.room (rw c.as_slice.ensures room)) ∙ is));
        exact = exact_finding called one told failed (status_of verdict) list status calls ended.only;
        complete = no_build called one told (⊥) (status_of verdict) list
            (λ (outputs : List File) (report : List ℕ). status ≡ statuses.Built → (g.O.Outs.written c.args.outs.now ≡ and_files (g.O.Outs.written c.args.outs.now) outputs) × (g.S.Sink.taken c.write_found.new.out ≡ and_bytes (g.S.Sink.taken c.args.out.now) report)) calls;
        outs_kept = λ not_built not_write. refl;
        out_kept = λ never not_built not_write. absurd (never list (subst (λ (s : Status). called told (Finds s list)) (sym (is_verdict_or_write verdict status ended.only not_write)) calls));
        files_kept = c.make.ensures.kept;
      };
    }

pub returns-in-Err-Usage : goal.returns-in-Err-Usage
returns-in-Err-Usage g c =
    let words = map string_bytes c.args.words.now in
    let told = g.F.Files.held c.args.files.now in
    let refused = rw c.in-Err-Usage.field-0-is at c.in-Err-Usage.ensures.stopped in
    let failed = Rose (g.F.Files.counts c.args.files.now).failed (g.F.Files.counts c.make.new.files).failed in
    let exact = exact_unasked (g.P.Program.calls_for words) (c.one_outcome.ensures words) told failed (λ outcome job. c.asks_nothing.ensures words (usage_line g.P.Program.name) told outcome refused job) statuses.Words in
    search rules

pub returns-in-Err-Stops-Memory : goal.returns-in-Err-Stops-Memory
returns-in-Err-Stops-Memory g c =
    let said = rw c.program_name-name.ensures at c.say-in-Err-Stops-Memory.ensures in
    search rules

pub returns-in-Err-Stops-Because : goal.returns-in-Err-Stops-Because
returns-in-Err-Stops-Because g c =
    let words = map string_bytes c.args.words.now in
    let called = g.P.Program.calls_for words in
    let told = g.F.Files.held c.args.files.now in
    let before = g.F.Files.counts c.args.files.now in
    let after = g.F.Files.counts c.make.new.files in
    let stop = c.in-Err-Stops-Because in
    let exact = exact_stop called (c.one_outcome.ensures words) told before after stop.status stop.message
    (fault_cause g.P.Program.name (g.P.Program.refuses words) (called told) before after stop.field-0 stop.field-0-0 stop.status stop.message stop.ensures.stopped stop.field-0-is stop.field-0-0-is) in
    search rules
