pub mod Devices
pub mod Printable
pub use Devices.{Reader, Grows, Feeds, Writer, Writes, WriteFails, Written, IsUntouched}
pub use Printable.{is_control, printable_byte, printable}
pub use declared.limits.TheConstants.{FAULT_ROOM}
