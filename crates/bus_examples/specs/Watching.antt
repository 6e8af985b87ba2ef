-- Why a line was not watched to its end.
use Rattle.bus_watch.specs.declared.fault.RunFault.{RunFault}
use Rattle.bus_watch.specs.declared.fault.RunFault.TheVariants as run
use Rattle.bus_examples.specs.declared.watching.WatchFault.{WatchFault}
use Rattle.bus_examples.specs.declared.watching.WatchFault.TheVariants.{New, Feed}

-- the fault of a whole run that it is
abbrev pub run_fault : WatchFault → RunFault
run_fault (New fault) = run.New fault
run_fault (Feed fault) = run.Feed fault
