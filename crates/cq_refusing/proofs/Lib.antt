mod Steps
mod Shared
