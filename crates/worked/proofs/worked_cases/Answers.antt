use Rattle.std.proofs.Common.{refl}
use Rattle.calendar.specs.Dates.{days_to, month_start}
use Rattle.calendar.specs.Moments.{moment_of}
use Rattle.moment.specs.Forms.{fits}
use Rattle.moment.specs.Texts.{utc_read}
use Rattle.ruling.specs.Answers.{heard}
use Rattle.ruling.specs.Rule.{earliest_in}
use Rattle.worked.proofs.Computed.{all-worked, cons_same, alone_is}
use Rattle.worked.proofs.worked_cases.Goals as goal

pub returns : goal.returns
unfolding earliest_in heard utc_read fits moment_of days_to month_start
returns c =
    record {
      worked = all-worked;
      answers =
          cons_same (alone_is 150 c.new.ensures c.alone.ensures)
          (cons_same (alone_is 92 c.new-2.ensures c.alone-2.ensures)
          (cons_same (alone_is 500 c.new-3.ensures c.alone-3.ensures)
          (cons_same (alone_is 100 c.new-4.ensures c.alone-4.ensures)
          (cons_same (alone_is 100 c.new-5.ensures c.alone-5.ensures)
          (cons_same c.two.ensures
          (cons_same (alone_is 91 c.new-6.ensures c.alone-6.ensures)
          (cons_same (alone_is 499 c.new-7.ensures c.alone-7.ensures)
          (cons_same (alone_is 100 c.new-8.ensures c.alone-8.ensures)
          (cons_same c.two-2.ensures refl)))))))));
      moments = cons_same c.read_utc.ensures.read (cons_same c.read_utc-2.ensures.read (cons_same c.read_utc-3.ensures.read refl));
    }
