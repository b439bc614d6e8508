-- What obeying came to is refused, or the run goes on from it to its end.
use Rattle.terms.specs.code.Sized.{job_sized}
use Rattle.letters_text.specs.Lettering.{letters_printed}
use Rattle.letters_text.proofs.RunFinished.{run_finished, refused_lettered, fine_lettered}
use Rattle.letters_text.proofs.letters_own.Goals as goal

pub obey-obeyed-requires : goal.obey-obeyed-requires
obey-obeyed-requires c = (c.requires.0, c.requires.1.0)

pub finished-requires : goal.finished-requires
finished-requires c =
    (_, (c.obey-obeyed.ensures c.requires.0 c.requires.1.0).went.holds)

pub put_asked-requires : goal.put_asked-requires
put_asked-requires c =
    let args = c.args in
    let numbers = c.requires.0 in
    let holds = (c.obey-obeyed.ensures numbers c.requires.1.0).went.holds in
    let finished = c.finished.ensures _ holds in
    (job_sized args.size numbers, (_, run_finished args.size numbers args.again.now _ _ _ _ holds finished c.requires.1.1))

pub returns-in-Err : goal.returns-in-Err
unfolding letters_printed
returns-in-Err c numbers spread again =
    let args = c.args in
    let told = rw c.in-Err.is at (c.obey-obeyed.ensures numbers spread) in
    rw (refused_lettered (job_sized args.size numbers) args.word.now _ _ _ told.comes_to) c.put_refusal.ensures

pub returns-in-Ok : goal.returns-in-Ok
returns-in-Ok c numbers spread again =
    let args = c.args in
    let job = job_sized args.size numbers in
    let told = rw c.in-Ok.is at (c.obey-obeyed.ensures numbers spread) in
    let holds = told.went.holds in
    let ended = c.finished.ensures job holds in
    let finished = run_finished args.size numbers args.again.now _ _ _ _ holds ended again in
    rw (fine_lettered job args.word.now _ _ told.comes_to, ← ended.merges) (c.put_asked.ensures job _ finished)
