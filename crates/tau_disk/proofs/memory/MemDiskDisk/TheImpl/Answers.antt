use Rattle.std.proofs.Common.{Result, Ok, Err, OnOk, IfOk}
use Rattle.tau_disk.proofs.LeftIn.{alone, written, synced}
use Rattle.tau_disk.proofs.memory.MemDiskDisk.TheImpl.Goals as goal

-- what holds at Ok holds of a disk that tells
told : {T E : Type 0} (P : Type 0) (result : Result T E) → OnOk result P → OnOk result (Unit {0} → P)
told P (Ok value) is = λ tells. is
told P (Err error) is = tt

told_if : {T E : Type 0} (P : T → Type 0) (result : Result T E) → IfOk result P → IfOk result (λ v. Unit {0} → P v)
told_if P (Ok value) is = λ tells. is
told_if P (Err error) is = tt

pub len-tells : goal.len-tells
len-tells c = record {
  length = told_if _ c.result c.ensures.length;
  seen = λ tells. c.ensures.seen;
  crash = c.ensures.crash;
  keeps = c.ensures.keeps;
  time = c.ensures.time;
  plan = λ tells. c.ensures.plan;
  left = λ tells. alone c.args.self.now c.new.self.now c.ensures.left;
  cause = c.ensures.cause;
}

pub read_at-tells : goal.read_at-tells
read_at-tells c = record {
  bytes = told _ c.result c.ensures.bytes;
  seen = λ tells. c.ensures.seen;
  crash = c.ensures.crash;
  keeps = c.ensures.keeps;
  time = c.ensures.time;
  plan = λ tells. c.ensures.plan;
  left = λ tells. alone c.args.self.now c.new.self.now c.ensures.left;
  cause = c.ensures.cause;
}

pub write_at-tells : goal.write_at-tells
write_at-tells c = record {
  written = told _ c.result c.ensures.written;
  crash = c.ensures.crash;
  keeps = c.ensures.keeps;
  time = c.ensures.time;
  plan = λ tells. c.ensures.plan;
  left = λ tells. written c.args.at c.args.bytes.now c.args.self.now c.new.self.now c.result c.ensures.left;
  cause = c.ensures.cause;
}

pub sync-tells : goal.sync-tells
sync-tells c = record {
  durable = told _ c.result c.ensures.durable;
  seen = told _ c.result c.ensures.seen;
  crash = c.ensures.crash;
  keeps = c.ensures.keeps;
  time = c.ensures.time;
  plan = λ tells. c.ensures.plan;
  left = λ tells. synced c.args.self.now c.new.self.now c.result c.ensures.left;
  cause = c.ensures.cause;
}
